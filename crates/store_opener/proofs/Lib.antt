mod Told
mod WrittenBack
mod Calls
