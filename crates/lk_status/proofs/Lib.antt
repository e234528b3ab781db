mod Agreeing
mod Serving
mod Gathered
mod Measuring
mod Looking
