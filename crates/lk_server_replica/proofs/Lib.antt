mod Sayings
