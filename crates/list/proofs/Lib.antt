mod Places
mod Listings
mod Moves
mod Rows
