-- The state of a round: what it is over, its words, and the accounts of its passes.
use Rattle.std.specs.Prelude.{◌≡◌, ◌<◌, ℕ, ◌+◌, ◌*◌, List, [], map, replicate, pos, Bool, true, false, nat_eq}
use Rattle.std.specs.Prelude.{slice_index, slice_index_or, slice_set, if◌then◌else◌}
use Rattle.std.specs.List.{range_with_len, flat_map}
use Rattle.hg_defs.specs.Sums.{total, sum_below}
use Rattle.hg_defs.specs.Hypergraph.{Hyper, vertex_count, net_count, net_of}
use Rattle.hg_defs.specs.Partition.{block_of, load}
use Rattle.hg_defs.specs.Pins.{pins_in, present}
use Rattle.move_core.specs.declared.account.Account.{Account}
use Rattle.move_core.specs.declared.account.Stage.TheVariants.{Idle}
use Rattle.move_core.specs.declared.events.Word.{Word}
use Rattle.move_core.specs.declared.events.Word.TheVariants as word

-- what a round is over: the hypergraph, the number of blocks, the limit on their loads, and the blocks at its opening
pub record Setup : Type 0 where
  pub graph : Hyper
  pub blocks : ℕ
  pub limit : ℕ
  pub opening : List ℕ

-- the words as they read
pub record Readings : Type 0 where
  pub claim : ℕ → ℕ
  pub name : ℕ → ℕ
  pub load : ℕ → ℕ
  pub count : ℕ → ℕ → ℕ
  pub spread : ℕ → ℕ
  pub next : ℕ
  pub cursor : ℕ

-- the counts of a net stand together, a word for each block
pub record State : Type 0 where
  pub setup : Setup
  pub claims : List ℕ
  pub names : List ℕ
  pub loads : List ℕ
  pub counts : List ℕ
  pub spreads : List ℕ
  pub next : ℕ
  pub cursor : ℕ
  pub accounts : List Account

-- how often a number stands in a list
abbrev pub times : ℕ → List ℕ → ℕ
times v xs = total (λ x. if nat_eq x v then 1 else 0) xs

-- where the count of a net in a block stands
abbrev pub count_place : ℕ → ℕ → ℕ → ℕ
count_place blocks e b = e * blocks + b

abbrev pub readings : State → Readings
readings s = record {
  claim = slice_index s.claims;
  name = slice_index s.names;
  load = slice_index s.loads;
  count = λ e b. slice_index s.counts (count_place s.setup.blocks e b);
  spread = slice_index s.spreads;
  next = s.next;
  cursor = s.cursor;
}

-- what a word reads
abbrev pub read : Readings → Word → ℕ
read r (word.Claim v) = r.claim v
read r (word.Name v) = r.name v
read r (word.Load b) = r.load b
read r (word.Count e b) = r.count e b
read r (word.Spread e) = r.spread e
read r word.Next = r.next
read r word.Cursor = r.cursor

-- the state with a number written into a word
abbrev pub written : State → Word → ℕ → State
written s (word.Claim v) x = record s { claims = slice_set s.claims v x }
written s (word.Name v) x = record s { names = slice_set s.names v x }
written s (word.Load b) x = record s { loads = slice_set s.loads b x }
written s (word.Count e b) x = record s { counts = slice_set s.counts (count_place s.setup.blocks e b) x }
written s (word.Spread e) x = record s { spreads = slice_set s.spreads e x }
written s word.Next x = record s { next = x }
written s word.Cursor x = record s { cursor = x }

-- an account of nothing
abbrev pub blank : Bool → Account
blank live = record {
  live = live;
  held = [];
  stage = Idle;
  moves = [];
  numbers = [];
  seeds = 0;
  gain = pos 0;
}

-- the account of a pass; of a number that no pass has, that of an ended one
abbrev pub account_in : List Account → ℕ → Account
account_in accounts i = slice_index_or accounts i (blank false)

abbrev pub account : State → ℕ → Account
account s i = account_in s.accounts i

-- how many of a net's pins are in a block at the opening
abbrev pub opening_pins : Setup → ℕ → ℕ → ℕ
opening_pins s e b = pins_in s.opening (net_of s.graph e).pins b

-- how many of the blocks below a bound have a positive count
abbrev pub present_below : (ℕ → ℕ) → ℕ → ℕ
present_below f n = sum_below (λ b. present (f b)) n

-- the words read as at the opening: nothing is claimed, and the rest is that of the opening partition
pub record IsOpening (g : Setup) (r : Readings) : Type 0 where
  pub claim : (v : ℕ) → v < vertex_count g.graph → r.claim v ≡ 0
  pub name : (v : ℕ) → v < vertex_count g.graph → r.name v ≡ block_of g.opening v
  pub load : (b : ℕ) → b < g.blocks → r.load b ≡ load g.graph g.opening b
  pub count : (e b : ℕ) → e < net_count g.graph → b < g.blocks → r.count e b ≡ opening_pins g e b
  pub spread : (e : ℕ) → e < net_count g.graph → r.spread e ≡ 64 + present_below (opening_pins g e) g.blocks
  pub next : r.next ≡ 0
  pub cursor : r.cursor ≡ 0

-- the state at the opening: nothing claimed, and so many passes that have done nothing
abbrev pub opened : Setup → ℕ → State
opened s passes =
    let h = s.graph in
    record {
      setup = s;
      claims = replicate (vertex_count h) 0;
      names = s.opening;
      loads = map (load h s.opening) (range_with_len 0 s.blocks);
      counts = flat_map (λ e. map (opening_pins s e) (range_with_len 0 s.blocks)) (range_with_len 0 (net_count h));
      spreads = map (λ e. 64 + present_below (opening_pins s e) s.blocks) (range_with_len 0 (net_count h));
      next = 0;
      cursor = 0;
      accounts = replicate passes (blank true);
    }

-- what a round of a hypergraph is over
abbrev pub setup_of : Hyper → ℕ → ℕ → List ℕ → Setup
setup_of h blocks limit p = record { graph = h; blocks = blocks; limit = limit; opening = p }
