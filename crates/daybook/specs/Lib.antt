pub mod Booking
pub mod Bookings
pub mod inner
