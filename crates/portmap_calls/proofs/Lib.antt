pub mod MappingCodec
pub mod Rows
