mod Each
mod Lines
mod Placed
mod Counted
mod FirstLaws
mod ShareLaws
