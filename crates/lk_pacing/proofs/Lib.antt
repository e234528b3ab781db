mod Ticking
