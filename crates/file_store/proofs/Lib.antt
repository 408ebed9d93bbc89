mod Lines
mod UserNames
