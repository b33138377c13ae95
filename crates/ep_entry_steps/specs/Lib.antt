-- Records of entries as rows of table 6, the ends of such a row, and that both forms of a lookup answer alike.
pub mod Records
pub mod Lookups
pub mod Alike
