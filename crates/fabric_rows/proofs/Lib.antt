pub mod SeatLists
