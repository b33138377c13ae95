-- What a read of an entry's row answers, and the entries of one map.
pub mod Entries
pub mod Reads
