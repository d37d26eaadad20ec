pub mod Satisfaction
pub mod Certificates
pub mod Laws
pub mod Mirrors
