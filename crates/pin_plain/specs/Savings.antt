-- What a net saves and loses where one of its pins goes from its block to another one, by the pin counts of the two.
use Rattle.std.specs.Prelude.{ℕ, ◌+◌, ◌*◌, List, length, not, ◌&&◌, nat_eq, nat_lt, if◌then◌else◌}
use Rattle.hg_defs.specs.declared.objective.Objective.{Objective}
use Rattle.hg_defs.specs.declared.objective.Objective.TheVariants.{Connectivity, CutNet, ExternalDegree}
use Rattle.hg_defs.specs.Hypergraph.{Hyper, net_of}
use Rattle.hg_defs.specs.Pins.{pins_in, present}

-- 1 where the pin is the last that the new block lacks
abbrev pub joined : ℕ → ℕ → ℕ
joined count size = if nat_lt 0 count && nat_eq (count + 1) size then 1 else 0

-- 1 where the pin leaves other pins behind in its block
abbrev pub left : ℕ → ℕ
left count = if nat_eq count 1 then 0 else 1

-- 1 where the pin leaves a block that held all the pins, of which there are others
abbrev pub parted : ℕ → ℕ → ℕ
parted count size = if nat_eq count size && not (nat_eq size 1) then 1 else 0

-- what a net of weight 1 with so many pins saves where the new block has this count
abbrev pub saved : Objective → ℕ → ℕ → ℕ
saved Connectivity count size = present count
saved CutNet count size = joined count size
saved ExternalDegree count size = present count + joined count size

-- what it loses where the old block has this count
abbrev pub lost : Objective → ℕ → ℕ → ℕ
lost Connectivity count size = left count
lost CutNet count size = parted count size
lost ExternalDegree count size = left count + parted count size

-- 1 where the block doesn't hold all the pins
abbrev pub apart : ℕ → ℕ → ℕ
apart count size = if nat_eq count size then 0 else 1

-- what it saves at most at any other block where the old block has this count
abbrev pub most_saved : Objective → ℕ → ℕ → ℕ
most_saved Connectivity count size = apart count size
most_saved CutNet count size = apart count size
most_saved ExternalDegree count size = 2 * apart count size

-- what net e saves where a pin goes to block b, saves at most where one leaves block a, and loses there
abbrev pub net_saved : Hyper → List ℕ → ℕ → ℕ → ℕ
net_saved h p b e = (net_of h e).weight * saved h.objective (pins_in p (net_of h e).pins b) (length (net_of h e).pins)

abbrev pub net_most : Hyper → List ℕ → ℕ → ℕ → ℕ
net_most h p a e = (net_of h e).weight * most_saved h.objective (pins_in p (net_of h e).pins a) (length (net_of h e).pins)

abbrev pub net_lost : Hyper → List ℕ → ℕ → ℕ → ℕ
net_lost h p a e = (net_of h e).weight * lost h.objective (pins_in p (net_of h e).pins a) (length (net_of h e).pins)
