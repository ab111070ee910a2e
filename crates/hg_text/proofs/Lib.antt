mod Cuts
mod Digits
mod Numbers
mod Parts
