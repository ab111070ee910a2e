-- The residual network. Each arc i has two halves: 2i goes along it, and 2i + 1 against it. A half has a rest,
-- by which the flow may still be raised along it: the capacity less the flow along the arc, and the flow against it.
use Rattle.std.specs.Prelude.{◌≡◌, ◌≢◌, ℕ, zero, suc, ◌+◌, ◌-◌, ◌*◌, ◌/◌, ◌%◌, ◌^◌, ◌<◌, ◌≤◌, List, length, All, slice_index, nat_eq, if◌then◌else◌}
use Rattle.std.specs.Prelude.{Bool, true, false}
use Rattle.hg_defs.specs.Sums.{sum_below}
use Rattle.flow_net.specs.declared.network.Arc.{Arc}
use Rattle.flow_net.specs.Flow.{arc_at, is_in}

-- the other half of the same arc
abbrev pub mate : ℕ → ℕ
mate h = h + 1 - 2 * (h % 2)

-- the node that a half leads to, and the one that it leaves
abbrev pub head : List ℕ → ℕ → ℕ
head heads h = slice_index heads h

abbrev pub tail : List ℕ → ℕ → ℕ
tail heads h = slice_index heads (mate h)

-- at is one more than the last half below the bound that leaves v, or 0 where none does
pub record IsLast (heads : List ℕ) (v bound at : ℕ) : Type 0 where
  pub within : at ≤ bound
  pub leaves : 0 < at → tail heads (at - 1) ≡ v
  pub none : (h : ℕ) → at ≤ h → h < bound → tail heads h ≢ v

-- the halves that leave a node form a list, from the last one down
pub record IsLinked (heads nexts firsts : List ℕ) : Type 0 where
  pub pairs : length heads % 2 ≡ 0
  pub long : length nexts ≡ length heads
  pub small : length heads ≤ 2 ^ 29
  pub few : length firsts ≤ 2 ^ 26
  pub nodes : (h : ℕ) → h < length heads → head heads h < length firsts
  pub first : (v : ℕ) → v < length firsts → IsLast heads v (length heads) (slice_index firsts v)
  pub next : (h : ℕ) → h < length heads → IsLast heads (tail heads h) h (slice_index nexts h)

-- a half by which a node reaches one that is a level lower
pub record IsStep (heads levels : List ℕ) (v h : ℕ) : Type 0 where
  pub half : h < length heads
  pub leaves : tail heads h ≡ v
  pub lower : slice_index levels (head heads h) + 1 ≡ slice_index levels v
  pub reached : 0 < slice_index levels (head heads h)

-- every node with a level above 0, but for the sink, has a step towards the sink, whose level is 1
pub record IsTree (heads levels ways : List ℕ) (sink : ℕ) : Type 0 where
  pub root : slice_index levels sink ≡ 1
  pub steps : (v : ℕ) → v < length levels → v ≢ sink → 0 < slice_index levels v → IsStep heads levels v (slice_index ways v)

-- every step may take more flow
abbrev pub IsOpen : List ℕ → List ℕ → List ℕ → ℕ → Type 0
IsOpen rests levels ways sink =
    (v : ℕ) → v < length levels → v ≢ sink → 0 < slice_index levels v → 0 < slice_index rests (slice_index ways v)

-- no half from a node without a level to one with a level may take more flow
abbrev pub IsClosed : List ℕ → List ℕ → List ℕ → Type 0
IsClosed heads rests levels =
    (h : ℕ) → h < length heads → 0 < slice_index levels (head heads h) → slice_index levels (tail heads h) ≡ 0 → slice_index rests h ≡ 0

-- no half that leaves a side may take more flow
abbrev pub IsShut : List ℕ → List ℕ → List Bool → Type 0
IsShut heads rests side =
    (h : ℕ) → h < length heads → is_in side (tail heads h) ≡ true → is_in side (head heads h) ≡ false → slice_index rests h ≡ 0

-- the next steps from v, as many as told, may each take this amount
abbrev pub Carries : List ℕ → List ℕ → List ℕ → ℕ → ℕ → ℕ → Type 0
Carries heads rests ways amount zero v = Unit {0}
Carries heads rests ways amount (suc d) v =
    (amount ≤ slice_index rests (slice_index ways v)) × Carries heads rests ways amount d (head heads (slice_index ways v))

-- 1 for a node with a level, 0 for one without
abbrev pub mark : ℕ → ℕ
mark level = if nat_eq level 0 then 0 else 1

-- how many nodes have a level
abbrev pub reached_count : List ℕ → ℕ
reached_count levels = sum_below (λ v. mark (slice_index levels v)) (length levels)

-- the halves that leave v and go to a node without a level have mates without rest
abbrev pub IsDone : List ℕ → List ℕ → List ℕ → ℕ → ℕ → Type 0
IsDone heads rests levels at v =
    (h : ℕ) → at ≤ h → h < length heads → tail heads h ≡ v → slice_index levels (head heads h) ≡ 0 → slice_index rests (mate h) ≡ 0

-- the node does not stand in the queue from one place up to another
abbrev pub IsAbsent : List ℕ → ℕ → ℕ → ℕ → Type 0
IsAbsent queue start end v = (j : ℕ) → start ≤ j → j < end → slice_index queue j ≢ v

-- the nodes with a level stand in the queue up to its end
pub record IsLined (levels queue : List ℕ) (end : ℕ) : Type 0 where
  pub count : reached_count levels ≡ end
  pub within : (j : ℕ) → j < end → slice_index queue j < length levels

-- they have a step towards the sink that may take more flow, and no level is higher than its place
pub record IsSpread (heads rests levels ways queue : List ℕ) (sink end : ℕ) : Type 0 where
  pub tree : IsTree heads levels ways sink
  pub opens : IsOpen rests levels ways sink
  pub lined : IsLined levels queue end
  pub reached : (j : ℕ) → j < end → 0 < slice_index levels (slice_index queue j)
  pub low : (j : ℕ) → j < end → slice_index levels (slice_index queue j) ≤ j + 1

-- those before the start of the queue are done
pub record IsSearched (heads rests levels ways queue : List ℕ) (sink start end : ℕ) : Type 0 where
  pub spread : IsSpread heads rests levels ways queue sink end
  pub done : (v : ℕ) → v < length levels → 0 < slice_index levels v → IsAbsent queue start end v → IsDone heads rests levels 0 v

-- the same while the halves of the node at the start of the queue are gone through, down to a place in their list
pub record IsScanned (heads rests levels ways queue : List ℕ) (sink start end node at : ℕ) : Type 0 where
  pub spread : IsSpread heads rests levels ways queue sink end
  pub order : start < end
  pub here : slice_index queue start ≡ node
  pub last : at ≤ length heads
  pub leaves : 0 < at → tail heads (at - 1) ≡ node
  pub part : IsDone heads rests levels at node
  pub done : (v : ℕ) → v < length levels → v ≢ node → 0 < slice_index levels v → IsAbsent queue (start + 1) end v → IsDone heads rests levels 0 v

-- the flow that leaves a node, and the flow that enters it: arc i leads from the head of half 2i + 1 to that of 2i
abbrev pub out_of : List ℕ → List ℕ → ℕ → ℕ
out_of heads rests v = sum_below (λ i. if nat_eq (slice_index heads (2 * i + 1)) v then slice_index rests (2 * i + 1) else 0) (length heads / 2)

abbrev pub into : List ℕ → List ℕ → ℕ → ℕ
into heads rests v = sum_below (λ i. if nat_eq (slice_index heads (2 * i)) v then slice_index rests (2 * i + 1) else 0) (length heads / 2)

-- the rests of the two halves of each arc are small
abbrev pub IsBounded : List ℕ → Type 0
IsBounded rests = (h : ℕ) → h < length rests → slice_index rests h + slice_index rests (mate h) < 2 ^ 63

-- the rests of the two halves of each arc have the same sum
abbrev pub KeepsPairs : List ℕ → List ℕ → Type 0
KeepsPairs old new = (h : ℕ) → h < length old → slice_index new h + slice_index new (mate h) ≡ slice_index old h + slice_index old (mate h)

-- as much flow as before enters each other node as leaves it, and at least an amount more leaves the source
pub record IsRaised (heads : List ℕ) (source sink amount : ℕ) (old new : List ℕ) : Type 0 where
  pub pairs : KeepsPairs old new
  pub kept : (v : ℕ) → v ≢ source → v ≢ sink → out_of heads new v + into heads old v ≡ out_of heads old v + into heads new v
  pub raised : out_of heads old source + into heads new source + amount ≤ out_of heads new source + into heads old source

-- an amount was taken from one node to another, and the rests of halves up to a level are as they were
pub record IsPushed (heads levels : List ℕ) (source node amount : ℕ) (old new : List ℕ) : Type 0 where
  pub pairs : KeepsPairs old new
  pub moved : (v : ℕ) → out_of heads new v + into heads old v + (if nat_eq node v then amount else 0) ≡ out_of heads old v + into heads new v +
      (if nat_eq source v then amount else 0)
  pub same : (h : ℕ) → h < length heads → slice_index levels (tail heads h) ≤ slice_index levels node → slice_index levels (head heads h) ≤ slice_index
      levels
      node → slice_index new h ≡ slice_index old h

-- the places of a search along the levels: the rest of the list of each node's halves, and a half by which each node was entered
pub record IsMarked (heads currents entries : List ℕ) : Type 0 where
  pub within : (v : ℕ) → v < length currents → slice_index currents v ≤ length heads
  pub leaves : (v : ℕ) → v < length currents → 0 < slice_index currents v → tail heads (slice_index currents v - 1) ≡ v
  pub entered : (v : ℕ) → v < length currents → slice_index entries v < length heads

-- the sums of the rests of all arcs
abbrev pub pairs_total : List ℕ → ℕ → ℕ
pairs_total rests arcs = sum_below (λ i. slice_index rests (2 * i) + slice_index rests (2 * i + 1)) arcs

-- how far the flow from the source is below all capacities
abbrev pub gap : List ℕ → List ℕ → ℕ → ℕ
gap heads rests source = (pairs_total rests (length heads / 2) + into heads rests source) - out_of heads rests source

-- the halves of the first arcs, without flow
pub record AreLaid (arcs : List Arc) (heads rests : List ℕ) (count : ℕ) : Type 0 where
  pub to : (i : ℕ) → i < count → slice_index heads (2 * i) ≡ (arc_at arcs i).to
  pub from : (i : ℕ) → i < count → slice_index heads (2 * i + 1) ≡ (arc_at arcs i).from
  pub along : (i : ℕ) → i < count → slice_index rests (2 * i) ≡ (arc_at arcs i).cap
  pub against : (i : ℕ) → i < count → slice_index rests (2 * i + 1) ≡ 0

-- the lists of the halves below a bound
pub record AreLinked (heads nexts firsts : List ℕ) (bound : ℕ) : Type 0 where
  pub first : (v : ℕ) → v < length firsts → IsLast heads v bound (slice_index firsts v)
  pub next : (h : ℕ) → h < bound → IsLast heads (tail heads h) h (slice_index nexts h)

-- the arcs join nodes below a bound, and none has more than a capacity
abbrev pub AreJoined : ℕ → List Arc → Type 0
AreJoined nodes arcs = All (λ arc. (arc.from < nodes) × (arc.to < nodes) × (arc.cap ≤ 2 ^ 62)) arcs
