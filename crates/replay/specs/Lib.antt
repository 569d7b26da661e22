pub mod Lending
pub mod Printed
