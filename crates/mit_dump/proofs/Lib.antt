mod Chains
mod Lists
mod Rows
mod Masters
mod Lines
mod Hex
