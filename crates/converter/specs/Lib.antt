pub mod Convert
pub mod ConvertTheorems
