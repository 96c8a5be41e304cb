mod Stops
