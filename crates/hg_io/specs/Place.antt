-- Which places are read from, and which are written to.
use Rattle.hg_io.specs.declared.place.Place.{Place}
use Rattle.hg_io.specs.declared.place.Place.TheVariants.{Nothing, Input, Output, Errors, File}

-- standard input and files are read from; else nothing is
abbrev pub read_place : Place → Place
read_place Nothing = Nothing
read_place Input = Input
read_place Output = Nothing
read_place Errors = Nothing
read_place (File name) = File name

-- standard output, standard error and files are written to; else nothing is
abbrev pub written_place : Place → Place
written_place Nothing = Nothing
written_place Input = Nothing
written_place Output = Output
written_place Errors = Errors
written_place (File name) = File name
