pub mod Bits
pub mod Codec
pub mod Field
pub mod Kinds
pub mod Dep
pub mod Via
pub mod Recast
pub mod Only
