pub mod Blocks
pub mod DataSheets
pub mod Plans
pub mod TableSizes
pub mod BlockTables
pub mod Sets
pub mod Sheets
