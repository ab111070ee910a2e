-- The steps of a pass on the words of the table: each is one event.
use Rattle.std.specs.Prelude.{◌≡◌, ℕ, ◌+◌, ◌-◌, ◌<◌, Bool, true, false, if◌then◌else◌}
use Rattle.hg_defs.specs.Hypergraph.{weight_of}
use Rattle.hg_defs.specs.Partition.{block_of}
use Rattle.hg_base.specs.Packed.{unit}
use Rattle.pin_plain.specs.Counts.{net_bits}
use Rattle.atomic_table.specs.Seated.{TableId}
use Rattle.move_core.specs.declared.account.Account.{Account}
use Rattle.move_core.specs.declared.events.Event.{Event}
use Rattle.move_core.specs.declared.events.Event.TheVariants.{Claim, Unclaim, Reserve, TakeBack, Draw, Name, Raise, Widen, Lower}
use Rattle.move_core.specs.declared.events.Event.TheVariants.{Narrow, GiveBack, Seed, Peek, Split, Join}
use Rattle.move_core.specs.State.{Setup}
use Rattle.move_core.specs.Stages.{vertex_at, from_at, to_at, raised_at, lowered_at, is_idle}
use Rattle.move_core.specs.Events.{pass_of, word_of, may_step, account_after, stage_net, joined_with}
use Rattle.move_table.specs.declared.view.Terms.{Terms}
use Rattle.move_table.specs.declared.view.View.{View}
use Rattle.move_table.specs.Places.{word_place, field_place}
use Rattle.move_table.specs.Standing.{terms_setup, fresh_view}

-- an event that takes a weight back doesn't count as the last step
abbrev pub is_take_back : Event → Bool
is_take_back (TakeBack i) = true
is_take_back _ = false

-- the view of a pass after an event of its own that found a number
abbrev pub acted : Event → ℕ → View → View
acted x found v =
    record v {
      account = account_after (terms_setup v.terms) x found v.account;
      steps = v.steps + 1;
      word = if is_take_back x then v.word else word_of (terms_setup v.terms) x v.account;
      found = if is_take_back x then v.found else found;
    }

-- what a step adds to its word, or subtracts from it: a count has the unit of its field
abbrev pub count_unit : Setup → ℕ → ℕ → ℕ
count_unit g e b = unit (net_bits g.graph e) (field_place g e b)

abbrev pub step_amount : Setup → Event → Account → ℕ
step_amount g (Claim i v) a = 0
step_amount g (Unclaim i v) a = 0
step_amount g (Reserve i v to) a = weight_of g.graph v
step_amount g (TakeBack i) a = weight_of g.graph (vertex_at a.stage)
step_amount g (Draw i) a = 1
step_amount g (Name i) a = 0
step_amount g (Raise i) a = count_unit g (stage_net g a.stage (raised_at a.stage)) (to_at a.stage)
step_amount g (Widen i) a = 1
step_amount g (Lower i) a = count_unit g (stage_net g a.stage (lowered_at a.stage)) (from_at a.stage)
step_amount g (Narrow i) a = 1
step_amount g (GiveBack i) a = weight_of g.graph (vertex_at a.stage)
step_amount g (Seed i) a = 1
step_amount g (Peek i w) a = 0
step_amount g (Split i) a = 0
step_amount g (Join i j) a = 0

-- the atomic step of an event
abbrev pub is_added : Event → Bool
is_added (Reserve i v to) = true
is_added (Draw i) = true
is_added (Raise i) = true
is_added (Widen i) = true
is_added (Seed i) = true
is_added _ = false

abbrev pub is_subtracted : Event → Bool
is_subtracted (TakeBack i) = true
is_subtracted (Lower i) = true
is_subtracted (Narrow i) = true
is_subtracted (GiveBack i) = true
is_subtracted _ = false

abbrev pub is_stored : Event → Bool
is_stored (Unclaim i v) = true
is_stored (Name i) = true
is_stored _ = false

abbrev pub is_swapped : Event → Bool
is_swapped (Claim i v) = true
is_swapped _ = false

abbrev pub is_loaded : Event → Bool
is_loaded (Peek i w) = true
is_loaded _ = false

-- what a store finds, though it doesn't tell: the claim of a vertex that is held, and the name of one that isn't moved
abbrev pub overwritten : Setup → Event → Account → ℕ
overwritten g (Unclaim i v) a = 1
overwritten g (Name i) a = block_of g.opening (vertex_at a.stage)
overwritten g _ a = 0

-- a live pass of the table that knows what the round is over may make an event on the word at this place
pub record IsReady (table : TableId) (t : Terms) (v : View) (x : Event) (i : ℕ) : Type 0 where
  pub terms : v.terms ≡ t
  pub live : v.account.live ≡ true
  pub number : pass_of x ≡ v.number
  pub may : may_step (terms_setup v.terms) x v.account ≡ true
  pub within : i < table.words
  pub place : i ≡ word_place (terms_setup v.terms) (word_of (terms_setup v.terms) x v.account)

-- a pass that has made another one, the pass that it made, and a pass that has taken another one over
abbrev pub parted_view : View → View
parted_view v = record v { steps = v.steps + 1; may = v.may - 1 }

abbrev pub made_view : View → View
made_view v = fresh_view v.terms (v.terms.workers - v.may) 0

abbrev pub united_view : View → View → View
united_view v w =
    record v {
      account = joined_with v.account w.account;
      steps = v.steps + 1;
      stands = v.stands + w.stands;
      may = v.may + w.may;
    }

-- a pass that has nothing in hand
pub record IsResting (v : View) : Type 0 where
  pub live : v.account.live ≡ true
  pub idle : is_idle v.account.stage ≡ true
