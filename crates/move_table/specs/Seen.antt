-- What an event of a pass tells it: what is known of the number that it finds.
use Rattle.std.specs.Prelude.{◌≡◌, ℕ, ◌+◌, ◌-◌, ◌^◌, ◌<◌, ◌≤◌, ℤ, ◌+ℤ◌, All, length, FitsSigned}
use Rattle.std.specs.Int.{w64}
use Rattle.hg_defs.specs.Hypergraph.{vertex_count, net_count, net_of, weight_of}
use Rattle.hg_defs.specs.Partition.{block_of}
use Rattle.hg_base.specs.Packed.{field}
use Rattle.pin_plain.specs.Counts.{net_bits}
use Rattle.move_core.specs.declared.account.Account.{Account}
use Rattle.move_core.specs.declared.events.Event.{Event}
use Rattle.move_core.specs.declared.events.Event.TheVariants.{Claim, Unclaim, Reserve, TakeBack, Draw, Name, Raise, Widen, Lower}
use Rattle.move_core.specs.declared.events.Event.TheVariants.{Narrow, GiveBack, Seed, Peek, Split, Join}
use Rattle.move_core.specs.declared.events.Word.{Word}
use Rattle.move_core.specs.declared.events.Word.TheVariants as word
use Rattle.move_core.specs.State.{Setup, times}
use Rattle.move_core.specs.Stages.{booked_at, vertex_at, raised_at, lowered_at}
use Rattle.move_core.specs.Events.{moved_vertices, word_of, widen_gain, narrow_gain, stage_net}
use Rattle.move_core.specs.Balance.{arrived, renamed, pins_carried}
use Rattle.move_table.specs.Places.{counts_place, field_place}

-- a claim is 0 or 1, and 1 where the pass itself holds the vertex; where it is 0 the pass hasn't moved the vertex
pub record IsClaimRead (a : Account) (v found : ℕ) : Type 0 where
  pub most : found ≤ 1
  pub own : 0 < times v a.held → found ≡ 1
  pub unmoved : found ≡ 0 → times v (moved_vertices a) ≡ 0

-- a name is a block: that to which the pass itself carried the vertex, and that at the opening where the pass holds it
-- and hasn't carried it
pub record IsNameRead (g : Setup) (a : Account) (v found : ℕ) : Type 0 where
  pub block : found < g.blocks
  pub carried : All (λ m. m.vertex ≡ v → found ≡ m.to) a.moves
  pub unmoved : 0 < times v a.held → times v (renamed a) ≡ 0 → found ≡ block_of g.opening v

-- a count is at least what the pass itself carried there, and at most the pins of the net
pub record IsCountRead (g : Setup) (a : Account) (e b found : ℕ) : Type 0 where
  pub own : pins_carried g.graph e b a ≤ found
  pub most : found ≤ length (net_of g.graph e).pins

-- so it is of each count that stands in the word of the table at a place
abbrev pub AreCountsRead : Setup → Account → ℕ → ℕ → Type 0
AreCountsRead g a place found =
    (e b : ℕ) → e < net_count g.graph → b < g.blocks → counts_place g e b ≡ place
    → IsCountRead g a e b (field found (net_bits g.graph e) (field_place g e b))

-- what a pass knows of a number that it reads in a word
abbrev pub IsRead : Setup → Account → Word → ℕ → Type 0
IsRead g a (word.Claim v) found = IsClaimRead a v found
IsRead g a (word.Name v) found = IsNameRead g a v found
IsRead g a (word.Load b) found = arrived g.graph b a.moves ≤ found
IsRead g a (word.Count e b) found = IsCountRead g a e b found
IsRead g a (word.Spread e) found = found ≤ 128 + g.blocks
IsRead g a word.Next found = found ≤ vertex_count g.graph
IsRead g a word.Cursor found = (a.seeds ≤ found) × (found ≤ 2 ^ 38)

-- a gain that a pass books fits, in all and on the move in hand
pub record IsBookable (a : Account) (gain : ℤ) : Type 0 where
  pub all : FitsSigned w64 (a.gain +ℤ gain)
  pub move : FitsSigned w64 (booked_at a.stage +ℤ gain)

-- the net for which a stage has still to book a block more, or a block less
abbrev pub widened_net : Setup → Account → ℕ
widened_net g a = stage_net g a.stage (raised_at a.stage - 1)

abbrev pub narrowed_net : Setup → Account → ℕ
narrowed_net g a = stage_net g a.stage (lowered_at a.stage - 1)

-- what is known, beside that, of the number that an event finds
abbrev pub IsFound : Setup → Event → Account → ℕ → Type 0
IsFound g (Claim i v) a found = Unit {0}
IsFound g (Unclaim i v) a found = found ≡ 1
IsFound g (Reserve i v to) a found = found + weight_of g.graph v < 2 ^ 64
IsFound g (TakeBack i) a found = Unit {0}
IsFound g (Draw i) a found = Unit {0}
IsFound g (Name i) a found = found ≡ block_of g.opening (vertex_at a.stage)
IsFound g (Raise i) a found = Unit {0}
IsFound g (Widen i) a found = IsBookable a (widen_gain g.graph (widened_net g a) found)
IsFound g (Lower i) a found = 1 ≤ found
IsFound g (Narrow i) a found = IsBookable a (narrow_gain g.graph (narrowed_net g a) found)
IsFound g (GiveBack i) a found = Unit {0}
IsFound g (Seed i) a found = Unit {0}
IsFound g (Peek i w) a found = Unit {0}
IsFound g (Split i) a found = Unit {0}
IsFound g (Join i j) a found = Unit {0}

-- all that an event tells its pass of the number that it finds
pub record IsKnownFound (g : Setup) (x : Event) (a : Account) (n : ℕ) : Type 0 where
  pub read : IsRead g a (word_of g x a) n
  pub found : IsFound g x a n
