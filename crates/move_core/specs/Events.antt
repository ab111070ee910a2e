-- The events of a round: the word of each, where it is enabled, what it writes, and what becomes of the account.
use Rattle.std.specs.Prelude.{◌≡◌, ◌≢◌, ℕ, ◌+◌, ◌-◌, ◌*◌, ◌^◌, List, [], ◌∷◌, ◌++◌, length, map, ℤ, pos, ◌+ℤ◌, ◌-ℤ◌, Bool, true}
use Rattle.std.specs.Prelude.{false, not, ◌&&◌, nat_eq, nat_lt, nat_le, slice_index, slice_set, if◌then◌else◌}
use Rattle.std.specs.Ordering.{nat_cmp}
use Rattle.std.specs.BTreeSet.{insert_key}
use Rattle.std.specs.Set.{remove_key}
use Rattle.hg_defs.specs.Hypergraph.{Hyper, vertex_count, net_count, net_of, weight_of, is_free}
use Rattle.hg_defs.specs.Partition.{block_of}
use Rattle.hg_defs.specs.Cost.{price}
use Rattle.move_core.specs.declared.account.Account.{Account}
use Rattle.move_core.specs.declared.account.Stage.{Stage}
use Rattle.move_core.specs.declared.account.Stage.TheVariants.{Idle, Refused, Granted}
use Rattle.move_core.specs.declared.events.Event.{Event}
use Rattle.move_core.specs.declared.events.Event.TheVariants.{Claim, Unclaim, Reserve, TakeBack, Draw, Name, Raise, Widen, Lower}
use Rattle.move_core.specs.declared.events.Event.TheVariants.{Narrow, GiveBack, Seed, Peek, Split, Join}
use Rattle.move_core.specs.declared.events.Word.{Word}
use Rattle.move_core.specs.declared.events.Word.TheVariants as word
use Rattle.move_core.specs.Stages.{vertex_at, to_at, from_at, raised_at, lowered_at, is_idle, is_reserved, is_granted, owes_nothing, owes_up, owes_down}
use Rattle.move_core.specs.Stages.{is_moving, drawn_stage, named_stage, raised_stage, lowered_stage, booked_stage, move_at, number_at}
use Rattle.hg_defs.specs.Incidence.{nets_of}
use Rattle.move_core.specs.State.{Setup, Readings, State, times, blank, account_in, read, readings, written}

-- the pass that makes an event
abbrev pub pass_of : Event → ℕ
pass_of (Claim i v) = i
pass_of (Unclaim i v) = i
pass_of (Reserve i v to) = i
pass_of (TakeBack i) = i
pass_of (Draw i) = i
pass_of (Name i) = i
pass_of (Raise i) = i
pass_of (Widen i) = i
pass_of (Lower i) = i
pass_of (Narrow i) = i
pass_of (GiveBack i) = i
pass_of (Seed i) = i
pass_of (Peek i w) = i
pass_of (Split i) = i
pass_of (Join i j) = i

-- the vertices of the moves done
abbrev pub moved_vertices : Account → List ℕ
moved_vertices a = map (λ m. m.vertex) a.moves

-- the net at a place of the nets of the stage's vertex
abbrev pub stage_net : Setup → Stage → ℕ → ℕ
stage_net s stage place = slice_index (nets_of s.graph (vertex_at stage)) place

-- word 0, which a pass reads where its step is on no word of its own
abbrev pub first_word : Setup → Word
first_word s = if nat_lt 0 (vertex_count s.graph) then word.Claim 0 else word.Next

-- the word of an event of a pass with this account
abbrev pub word_of : Setup → Event → Account → Word
word_of s (Claim i v) a = word.Claim v
word_of s (Unclaim i v) a = word.Claim v
word_of s (Reserve i v to) a = word.Load to
word_of s (TakeBack i) a = word.Load (to_at a.stage)
word_of s (Draw i) a = word.Next
word_of s (Name i) a = word.Name (vertex_at a.stage)
word_of s (Raise i) a = word.Count (stage_net s a.stage (raised_at a.stage)) (to_at a.stage)
word_of s (Widen i) a = word.Spread (stage_net s a.stage (raised_at a.stage - 1))
word_of s (Lower i) a = word.Count (stage_net s a.stage (lowered_at a.stage)) (from_at a.stage)
word_of s (Narrow i) a = word.Spread (stage_net s a.stage (lowered_at a.stage - 1))
word_of s (GiveBack i) a = word.Load (from_at a.stage)
word_of s (Seed i) a = word.Cursor
word_of s (Peek i w) a = w
word_of s (Split i) a = first_word s
word_of s (Join i j) a = first_word s

-- what an event writes where it found a number
abbrev pub write_of : Setup → Event → Account → ℕ → ℕ
write_of s (Claim i v) a found = 1
write_of s (Unclaim i v) a found = 0
write_of s (Reserve i v to) a found = found + weight_of s.graph v
write_of s (TakeBack i) a found = found - weight_of s.graph (vertex_at a.stage)
write_of s (Draw i) a found = found + 1
write_of s (Name i) a found = to_at a.stage
write_of s (Raise i) a found = found + 1
write_of s (Widen i) a found = found + 1
write_of s (Lower i) a found = found - 1
write_of s (Narrow i) a found = found - 1
write_of s (GiveBack i) a found = found - weight_of s.graph (vertex_at a.stage)
write_of s (Seed i) a found = found + 1
write_of s (Peek i w) a found = found
write_of s (Split i) a found = found
write_of s (Join i j) a found = found

-- what an event takes from its word
abbrev pub removed_by : Setup → Event → Account → ℕ
removed_by s (TakeBack i) a = weight_of s.graph (vertex_at a.stage)
removed_by s (Lower i) a = 1
removed_by s (Narrow i) a = 1
removed_by s (GiveBack i) a = weight_of s.graph (vertex_at a.stage)
removed_by s _ a = 0

-- what a net costs where its spread word reads this
abbrev pub price_at : Hyper → ℕ → ℕ → ℕ
price_at h e spread = (net_of h e).weight * price h.objective (spread - 64)

-- what a pass books where it finds that a net gets a block, or loses one
abbrev pub widen_gain : Hyper → ℕ → ℕ → ℤ
widen_gain h e found = pos (price_at h e found) -ℤ pos (price_at h e (found + 1))

abbrev pub narrow_gain : Hyper → ℕ → ℕ → ℤ
narrow_gain h e found = pos (price_at h e found) -ℤ pos (price_at h e (found - 1))

-- the accounts after each event
abbrev pub claimed : ℕ → ℕ → Account → Account
claimed v found a = if nat_eq found 0 then record a { held = insert_key nat_cmp a.held v } else a

abbrev pub unclaimed : ℕ → Account → Account
unclaimed v a = record a { held = remove_key (nat_eq v) a.held }

abbrev pub at_stage : Stage → Account → Account
at_stage stage a = record a { stage = stage }

abbrev pub booked : ℤ → Account → Account
booked gain a = record a { stage = booked_stage gain a.stage; gain = a.gain +ℤ gain }

abbrev pub given_back : ℕ → Account → Account
given_back i a =
    record a { stage = Idle; moves = a.moves ++ move_at i a.stage; numbers = a.numbers ++ number_at a.stage }

abbrev pub seeded : Account → Account
seeded a = record a { seeds = a.seeds + 1 }

-- all keys of a list put into a list in rising order
abbrev pub all_inserted : List ℕ → List ℕ → List ℕ
all_inserted xs [] = xs
all_inserted xs (y ∷ ys) = all_inserted (insert_key nat_cmp xs y) ys

abbrev pub joined_with : Account → Account → Account
joined_with a other =
    record a {
      held = all_inserted a.held other.held;
      moves = a.moves ++ other.moves;
      numbers = a.numbers ++ other.numbers;
      seeds = a.seeds + other.seeds;
      gain = a.gain +ℤ other.gain;
    }

-- where an event that found a number leaves the stage
abbrev pub stage_after : Setup → Event → ℕ → Stage → Stage
stage_after s (Reserve i v to) found stage =
    if nat_le (found + weight_of s.graph v) s.limit then Granted v (block_of s.opening v) to found else Refused v to found
stage_after s (TakeBack i) found stage = Idle
stage_after s (Draw i) found stage = drawn_stage found stage
stage_after s (Name i) found stage = named_stage stage
stage_after s (Raise i) found stage = raised_stage found stage
stage_after s (Lower i) found stage = lowered_stage found stage
stage_after s _ found stage = stage

-- what it books
abbrev pub gain_after : Setup → Event → ℕ → Stage → ℤ
gain_after s (Widen i) found stage = widen_gain s.graph (stage_net s stage (raised_at stage - 1)) found
gain_after s (Narrow i) found stage = narrow_gain s.graph (stage_net s stage (lowered_at stage - 1)) found
gain_after s _ found stage = pos 0

-- what becomes of the account of its pass, by where it leaves the stage and what it books
abbrev pub changed : Event → ℕ → Stage → ℤ → Account → Account
changed (Claim i v) found next gain a = claimed v found a
changed (Unclaim i v) found next gain a = unclaimed v a
changed (Widen i) found next gain a = booked gain a
changed (Narrow i) found next gain a = booked gain a
changed (GiveBack i) found next gain a = given_back i a
changed (Seed i) found next gain a = seeded a
changed (Peek i w) found next gain a = a
changed (Split i) found next gain a = a
changed (Join i j) found next gain a = a
changed _ found next gain a = at_stage next a

-- the account of the pass that made an event and found a number, but for what another pass gives it
abbrev pub account_after : Setup → Event → ℕ → Account → Account
account_after s x found a = changed x found (stage_after s x found a.stage) (gain_after s x found a.stage) a

-- the net of a word, 0 where it has none
abbrev pub word_net : Word → ℕ
word_net (word.Count e b) = e
word_net (word.Spread e) = e
word_net _ = 0

-- the pass holds the vertex
abbrev pub is_holding : Account → ℕ → Bool
is_holding a v = nat_lt 0 (times v a.held)

-- the pass holds the vertex and hasn't moved it
abbrev pub holds_unmoved : Account → ℕ → Bool
holds_unmoved a v = is_holding a v && nat_eq (times v (moved_vertices a)) 0

-- the word exists
abbrev pub is_word : Setup → Word → Bool
is_word s (word.Claim v) = nat_lt v (vertex_count s.graph)
is_word s (word.Name v) = nat_lt v (vertex_count s.graph)
is_word s (word.Load b) = nat_lt b s.blocks
is_word s (word.Count e b) = nat_lt e (net_count s.graph) && nat_lt b s.blocks
is_word s (word.Spread e) = nat_lt e (net_count s.graph)
is_word s word.Next = true
is_word s word.Cursor = true

-- where an event is enabled for a live pass with this account, but for what it asks of other passes
abbrev pub may_step : Setup → Event → Account → Bool
may_step s (Claim i v) a = is_idle a.stage && (nat_lt v (vertex_count s.graph) && is_free s.graph v)
may_step s (Unclaim i v) a = is_idle a.stage && (nat_lt v (vertex_count s.graph) && holds_unmoved a v)
may_step s (Reserve i v to) a =
    is_idle a.stage
    && (nat_lt v (vertex_count s.graph)
    && (holds_unmoved a v && (nat_lt to s.blocks && not (nat_eq to (block_of s.opening v)))))
may_step s (TakeBack i) a = is_reserved a.stage
may_step s (Draw i) a = is_granted a.stage
may_step s (Name i) a = is_moving (λ named raised lowered owed. not named) a.stage
may_step s (Raise i) a =
    is_moving
    (λ named raised lowered owed.
    named && (owes_nothing owed && (nat_eq raised lowered && nat_lt raised (length (nets_of s.graph (vertex_at a.stage))))))
    a.stage
may_step s (Widen i) a = is_moving (λ named raised lowered owed. owes_up owed) a.stage
may_step s (Lower i) a =
    is_moving (λ named raised lowered owed. owes_nothing owed && nat_eq raised (lowered + 1)) a.stage
may_step s (Narrow i) a = is_moving (λ named raised lowered owed. owes_down owed) a.stage
may_step s (GiveBack i) a =
    is_moving
    (λ named raised lowered owed.
    named && (owes_nothing owed && nat_eq lowered (length (nets_of s.graph (vertex_at a.stage)))))
    a.stage
may_step s (Seed i) a = nat_lt a.seeds (2 ^ 32)
may_step s (Peek i w) a = is_word s w
may_step s (Split i) a = is_idle a.stage
may_step s (Join i j) a = is_idle a.stage && not (nat_eq i j)

-- what an event asks of other passes: that fewer than 64 were made, or that the other one is live and idle
abbrev pub others_agree_for : List Account → Event → Bool
others_agree_for accounts (Split i) = nat_lt (length accounts) 64
others_agree_for accounts (Join i j) = (account_in accounts j).live && is_idle (account_in accounts j).stage
others_agree_for accounts _ = true

-- An event over readings of the words and the accounts of all passes: where it is enabled, its word, what it finds
-- there and what it writes, and the accounts after it.
abbrev pub is_enabled_for : Setup → List Account → Event → Bool
is_enabled_for g accounts x =
    let a = account_in accounts (pass_of x) in a.live && (may_step g x a && others_agree_for accounts x)

abbrev pub word_for : Setup → List Account → Event → Word
word_for g accounts x = word_of g x (account_in accounts (pass_of x))

abbrev pub found_for : Setup → Readings → List Account → Event → ℕ
found_for g r accounts x = read r (word_for g accounts x)

abbrev pub write_for : Setup → List Account → Event → ℕ → ℕ
write_for g accounts x found = write_of g x (account_in accounts (pass_of x)) found

abbrev pub removed_for : Setup → List Account → Event → ℕ
removed_for g accounts x = removed_by g x (account_in accounts (pass_of x))

abbrev pub accounts_after_for : Setup → List Account → Event → ℕ → List Account
accounts_after_for g accounts (Split i) found = accounts ++ blank true ∷ []
accounts_after_for g accounts (Join i j) found =
    slice_set (slice_set accounts i (joined_with (account_in accounts i) (account_in accounts j))) j (blank false)
accounts_after_for g accounts x found =
    slice_set accounts (pass_of x) (account_after g x found (account_in accounts (pass_of x)))

-- a number is written into a word, and every other word there is reads as before
pub record WritesWord (g : Setup) (w : Word) (x : ℕ) (r r' : Readings) : Type 0 where
  pub here : read r' w ≡ x
  pub others : (u : Word) → is_word g u ≡ true → u ≢ w → read r' u ≡ read r u

-- the same over a state
abbrev pub others_agree : State → Event → Bool
others_agree s x = others_agree_for s.accounts x

abbrev pub is_enabled : State → Event → Bool
is_enabled s x = is_enabled_for s.setup s.accounts x

abbrev pub found_of : State → Event → ℕ
found_of s x = found_for s.setup (readings s) s.accounts x

abbrev pub accounts_after : State → Event → ℕ → List Account
accounts_after s x found = accounts_after_for s.setup s.accounts x found

-- the state after an event
abbrev pub state_after : State → Event → State
state_after s x =
    let found = found_of s x in
    record (written s (word_for s.setup s.accounts x) (write_for s.setup s.accounts x found)) {
      accounts = accounts_after s x found;
    }
