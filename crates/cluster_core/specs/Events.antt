-- The events of a clustering: the word of each, where it is enabled, what it writes, and what becomes of the accounts.
use Rattle.std.specs.Prelude.{ℕ, ◌+◌, ◌-◌, List, [], ◌∷◌, ◌++◌, length, Bool, true, false, not, ◌&&◌, nat_eq, nat_lt, nat_le, slice_set, if◌then◌else◌}
use Rattle.std.specs.Ordering.{nat_cmp}
use Rattle.std.specs.BTreeSet.{insert_key}
use Rattle.std.specs.Set.{remove_key}
use Rattle.hg_defs.specs.Hypergraph.{vertex_count, weight_of, is_free}
use Rattle.cluster_core.specs.declared.account.Account.{Account}
use Rattle.cluster_core.specs.declared.account.Stage.{Stage}
use Rattle.cluster_core.specs.declared.account.Stage.TheVariants.{Idle, Refused, Granted}
use Rattle.cluster_core.specs.declared.events.ClusterEvent.{ClusterEvent}
use Rattle.cluster_core.specs.declared.events.ClusterEvent.TheVariants.{Take, Root, Add, TakeBack, Follow, Peek, Split, Join}
use Rattle.cluster_core.specs.State.{Setup, State, Word, Mark, Mass, times, blank, account, read, readings, written}

-- the parts of a stage; 0 where it has none
abbrev pub vertex_at : Stage → ℕ
vertex_at Idle = 0
vertex_at (Refused v q) = v
vertex_at (Granted v q) = v

abbrev pub root_at : Stage → ℕ
root_at Idle = 0
root_at (Refused v q) = q
root_at (Granted v q) = q

-- the tests on stages
abbrev pub is_idle : Stage → Bool
is_idle Idle = true
is_idle (Refused v q) = false
is_idle (Granted v q) = false

abbrev pub is_added : Stage → Bool
is_added Idle = false
is_added (Refused v q) = true
is_added (Granted v q) = true

abbrev pub is_granted : Stage → Bool
is_granted Idle = false
is_granted (Refused v q) = false
is_granted (Granted v q) = true

-- the pass that makes an event
abbrev pub pass_of : ClusterEvent → ℕ
pass_of (Take i v) = i
pass_of (Root i v) = i
pass_of (Add i v q) = i
pass_of (TakeBack i) = i
pass_of (Follow i) = i
pass_of (Peek i v) = i
pass_of (Split i) = i
pass_of (Join i j) = i

-- the word of an event of a pass with this account; word 0 where the step is on no word of its own
abbrev pub word_of : ClusterEvent → Account → Word
word_of (Take i v) a = Mark v
word_of (Root i v) a = Mark v
word_of (Add i v q) a = Mass q
word_of (TakeBack i) a = Mass (root_at a.stage)
word_of (Follow i) a = Mark (vertex_at a.stage)
word_of (Peek i v) a = Mark v
word_of (Split i) a = Mark 0
word_of (Join i j) a = Mark 0

-- what an event writes where it found a number
abbrev pub write_of : Setup → ClusterEvent → Account → ℕ → ℕ
write_of g (Take i v) a found = if nat_eq found 0 then 1 else found
write_of g (Root i v) a found = v + 2
write_of g (Add i v q) a found = found + weight_of g.graph v
write_of g (TakeBack i) a found = found - weight_of g.graph (vertex_at a.stage)
write_of g (Follow i) a found = root_at a.stage + 2
write_of g (Peek i v) a found = found
write_of g (Split i) a found = found
write_of g (Join i j) a found = found

-- the account of a pass that read a mark: of a decided one it knows the root from now on
abbrev pub learned : ℕ → Account → Account
learned found a = if nat_le 2 found then record a { known = insert_key nat_cmp a.known (found - 2) } else a

-- the accounts after each event
abbrev pub took : ℕ → ℕ → Account → Account
took v found a = if nat_eq found 0 then record a { taken = insert_key nat_cmp a.taken v } else learned found a

abbrev pub rooted : ℕ → Account → Account
rooted v a = record a { taken = remove_key (nat_eq v) a.taken; known = insert_key nat_cmp a.known v }

abbrev pub added : Setup → ℕ → ℕ → ℕ → Account → Account
added g v q found a =
    record a { stage = if nat_le (found + weight_of g.graph v) g.cap then Granted v q else Refused v q }

abbrev pub idle : Account → Account
idle a = record a { stage = Idle }

abbrev pub followed : Account → Account
followed a = record a { taken = remove_key (nat_eq (vertex_at a.stage)) a.taken; stage = Idle }

-- all keys of a list put into a list in rising order
abbrev pub all_inserted : List ℕ → List ℕ → List ℕ
all_inserted xs [] = xs
all_inserted xs (y ∷ ys) = all_inserted (insert_key nat_cmp xs y) ys

abbrev pub joined_with : Account → Account → Account
joined_with a other =
    record a { taken = all_inserted a.taken other.taken; known = all_inserted a.known other.known }

-- the account of the pass that made an event and found a number, but for what another pass gives it
abbrev pub account_after : Setup → ClusterEvent → ℕ → Account → Account
account_after g (Take i v) found a = took v found a
account_after g (Root i v) found a = rooted v a
account_after g (Add i v q) found a = added g v q found a
account_after g (TakeBack i) found a = idle a
account_after g (Follow i) found a = followed a
account_after g (Peek i v) found a = learned found a
account_after g (Split i) found a = a
account_after g (Join i j) found a = a

-- the pass has taken the vertex, and the pass knows the root
abbrev pub has_taken : Account → ℕ → Bool
has_taken a v = nat_lt 0 (times v a.taken)

abbrev pub knows : Account → ℕ → Bool
knows a q = nat_lt 0 (times q a.known)

-- where an event is enabled for a live pass with this account, but for what it asks of other passes
abbrev pub may_step : Setup → ClusterEvent → Account → Bool
may_step g (Take i v) a = is_idle a.stage && (nat_lt v (vertex_count g.graph) && is_free g.graph v)
may_step g (Root i v) a = is_idle a.stage && (nat_lt v (vertex_count g.graph) && has_taken a v)
may_step g (Add i v q) a =
    is_idle a.stage
    && (nat_lt v (vertex_count g.graph) && (nat_lt q (vertex_count g.graph) && (has_taken a v && knows a q)))
may_step g (TakeBack i) a = is_added a.stage
may_step g (Follow i) a = is_granted a.stage
may_step g (Peek i v) a = nat_lt v (vertex_count g.graph)
may_step g (Split i) a = is_idle a.stage
may_step g (Join i j) a = is_idle a.stage && not (nat_eq i j)

-- what an event asks of other passes: that fewer than 64 were made, or that the other one is live and idle
abbrev pub others_agree : List Account → ClusterEvent → Bool
others_agree accounts (Split i) = nat_lt (length accounts) 64
others_agree accounts (Join i j) = (account accounts j).live && is_idle (account accounts j).stage
others_agree accounts _ = true

abbrev pub is_enabled : Setup → List Account → ClusterEvent → Bool
is_enabled g accounts x =
    let a = account accounts (pass_of x) in a.live && (may_step g x a && others_agree accounts x)

-- the accounts after an event that found a number
abbrev pub accounts_after : Setup → List Account → ClusterEvent → ℕ → List Account
accounts_after g accounts (Split i) found = accounts ++ blank true ∷ []
accounts_after g accounts (Join i j) found =
    slice_set (slice_set accounts i (joined_with (account accounts i) (account accounts j))) j (blank false)
accounts_after g accounts x found =
    slice_set accounts (pass_of x) (account_after g x found (account accounts (pass_of x)))

-- what an event finds in its word
abbrev pub found_of : State → ClusterEvent → ℕ
found_of s x = read (readings s) (word_of x (account s.accounts (pass_of x)))

-- the state after an event
abbrev pub after : Setup → State → ClusterEvent → State
after g s x =
    let a = account s.accounts (pass_of x) in
    let found = found_of s x in
    record (written s (word_of x a) (write_of g x a found)) { accounts = accounts_after g s.accounts x found }
