pub mod Metering
