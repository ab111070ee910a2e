-- What contracts see of a source at a place.
use Rattle.std.specs.Prelude.{false}
use Rattle.hg_io.specs.End.{End}
use Rattle.hg_io.specs.declared.place.Place.{Place}
use Rattle.hg_io.specs.declared.place.Place.TheVariants as place
use Rattle.hg_io.specs.declared.any_source.Reader.{Reader}
use Rattle.hg_io.specs.declared.any_source.Reader.TheVariants.{Nowhere, Stream, File}

-- a place that isn't read from has no faults
abbrev pub end_of : {H T F D : Type 0} → Reader H T F D → End
end_of Nowhere = record { place = place.Nothing; faults = 0; held = false }
end_of (Stream s) = record { place = place.Input; faults = s.faults; held = false }
end_of (File f) = record { place = place.File f.name; faults = f.faults; held = false }
