mod Devices
mod Past
mod Written
