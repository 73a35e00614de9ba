mod Made
mod Stays
