-- Document 01 as definitions, with what has landed of 02. A file is a list of numbers below 256.
-- the words that the sections are told in
pub mod Bytes
pub mod Ticks
-- "The clip record", "Programs and languages", "Entry points", "Extensions"
pub mod ClipRecord
pub mod Programs
pub mod EntryPoints
pub mod Extensions
-- the record of a file, and tables that hold one
pub mod Reading
pub mod Tables
-- "Questions and the front figure", "Rewriting", "Who can be refused"
pub mod Questions
pub mod Rewriting
pub mod Refusals
-- the listing of "Checked by hand"
pub mod Listing
-- the refusals of reading told a second time, read by read
pub mod ReadByRead
