-- A log's settings and records as bytes, and that each determines the other.
pub mod Numbers
pub mod Fields
pub mod Records
pub mod Headers
pub mod RoundTrip
