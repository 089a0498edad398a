-- Laws of little-endian bytes, and of the records and settings that they hold.
pub mod BytesOf
pub mod RoundTrip
pub mod Stores
pub mod Windows
