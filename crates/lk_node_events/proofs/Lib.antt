mod Putting
