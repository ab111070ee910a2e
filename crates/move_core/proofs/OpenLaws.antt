-- The books of a round at its opening are in balance.
use Rattle.std.proofs.Common.{◌≡◌, ℕ, ◌+◌, ◌-◌, ◌*◌, ◌^◌, ◌<◌, ◌≤◌, inl, inr, Bool, true, false, List, [], ◌∷◌, map, length, length-append, take, get_or}
use Rattle.std.proofs.Common.{replicate, slice_index, nat_eq, nat_lt, if◌then◌else◌, All, pos, refl, sym, ap, ◌∙◌, subst, arith}
use Rattle.std.specs.List.{range_with_len, flat_map}
use Rattle.std.proofs.lemmas.Int.{ints}
use Rattle.std.proofs.lemmas.Bool.{true≢false, le-ltb, cases_lt}
use Rattle.std.proofs.lemmas.List.{get_or_past, get_or-replicate, length-replicate, length-take-le}
use Rattle.std.proofs.lemmas.List.Elements.{All-nil}
use Rattle.std.proofs.lemmas.List.Concat.{get_or-flat_map}
use Rattle.std.proofs.lemmas.List.FromFn.{length-range_with_len, get_or-range_with_len, get_or-map-range_with_len, length-map-range_with_len}
use Rattle.hg_defs.specs.declared.moves.Move.{Move}
use Rattle.hg_defs.specs.Sums.{total}
use Rattle.hg_defs.specs.Hypergraph.{vertex_count, net_count, net_of}
use Rattle.hg_defs.specs.Partition.{block_of, load}
use Rattle.hg_defs.specs.Pins.{present}
use Rattle.hg_defs.specs.Cost.{net_cost, price, connectivity}
use Rattle.hg_defs.proofs.SumLaws.{total-replicate, total-zero, total-same_each, total-by_index, sum_below-same, total_z-zero}
use Rattle.hg_defs.proofs.DistinctLaws.{connectivity-sum}
use Rattle.move_core.specs.declared.account.Account.{Account}
use Rattle.hg_defs.specs.Incidence.{nets_of}
use Rattle.move_core.specs.State.{Setup, Readings, account_in, readings, blank, times, opened, opening_pins, IsOpening, present_below}
use Rattle.move_core.specs.Events.{price_at}
use Rattle.move_core.specs.Balance.{InBalance, IsSetup, IsShaped, IsBooks, IsGain, IsNamed, IsInStep, IsMoveFromOpening}
use Rattle.move_core.specs.Balance.{IsStageMove, IsOwing, IsBetween, IsBookedWithin, carried, drawn, raises, lowers, departed}
use Rattle.move_core.specs.Balance.{arrived, reserved_weight, owed_up, owed_down, weights_of, moves_before}
use Rattle.move_core.proofs.RestLaws.{seed_room}
use Rattle.move_core.proofs.WorkerLaws.{workers_blank}

-- all accounts are blank
All_blank : (P : Account → Type 0) (n : ℕ) → P (blank true) → All P (replicate n (blank true))
All_blank P n p k d l = subst P (sym (get_or-replicate n k (blank true) d (subst (λ m. k < m) (length-replicate n (blank true)) l))) p

total_blank : (f : Account → ℕ) (n : ℕ) → f (blank true) ≡ 0 → total f (replicate n (blank true)) ≡ 0
total_blank f n z =
    let e = total-replicate f n (blank true) in
    let q : n * f (blank true) ≡ n * 0 = ap (λ x. n * x) z in
    omega arith

-- pieces of one length, one after the other
length-rows : {A X : Type 0} (f : X → List A) (k : ℕ) → ((x : X) → length (f x) ≡ k) → (xs : List X) → length (flat_map f xs) ≡ length xs * k
length-rows f k h [] = omega arith
length-rows f k h (x ∷ xs) =
    let e = length-rows f k h xs in
    let a = length-append (f x) (flat_map f xs) in
    let b = h x in
    omega arith

pub length-opened_counts : (s : Setup) → length (flat_map (λ e. map (opening_pins s e) (range_with_len 0 s.blocks)) (range_with_len 0 (net_count s.graph)))
    ≡ net_count s.graph * s.blocks
length-opened_counts s =
    length-rows (λ e. map (opening_pins s e) (range_with_len 0 s.blocks)) s.blocks (λ e. length-map-range_with_len (opening_pins s e) 0 s.blocks)
    (range_with_len 0 (net_count s.graph))
    ∙ ap (λ n. n * s.blocks) (length-range_with_len 0 (net_count s.graph))

pub opened-count : (s : Setup) (passes e b : ℕ) → e < net_count s.graph → b < s.blocks → (readings (opened s passes)).count e b ≡ opening_pins s e b
opened-count s passes e b le lb =
    let f : ℕ → List ℕ = λ x. map (opening_pins s x) (range_with_len 0 s.blocks) in
    let xs = range_with_len 0 (net_count s.graph) in
    let nets = length-range_with_len 0 (net_count s.graph) in
    let here : get_or xs e 0 ≡ e = get_or-range_with_len 0 (net_count s.graph) e 0 le ∙ (omega arith) in
    let row = λ (x : ℕ). length-map-range_with_len (opening_pins s x) 0 s.blocks in
    let before : length (flat_map f (take e xs)) ≡ e * s.blocks = length-rows f s.blocks row (take e xs)
    ∙ ap (λ n. n * s.blocks) (length-take-le e xs (omega arith)) in
    let a = get_or-flat_map f xs e b 0 0 (omega arith) (let q = row (get_or xs e 0) in omega arith) in
    ap (λ n. slice_index (flat_map f xs) (n + b)) (sym before) ∙ a ∙ ap (λ x. get_or (f x) b 0) here
    ∙ get_or-map-range_with_len (opening_pins s e) 0 s.blocks b b 0 lb (omega arith)

-- the words of the state at the opening read so
pub opened_reads : (s : Setup) (passes : ℕ) → IsOpening s (readings (opened s passes))
opened_reads s passes = record {
  claim = λ v l. get_or-replicate (vertex_count s.graph) v 0 0 l;
  name = λ v l. refl;
  load = λ b l. get_or-map-range_with_len (load s.graph s.opening) 0 s.blocks b b 0 l (omega arith);
  count = λ e b le lb. opened-count s passes e b le lb;
  spread = λ e l. get_or-map-range_with_len (λ x. 64 + present_below (opening_pins s x) s.blocks) 0 (net_count s.graph) e e 0 l (omega arith);
  next = refl;
  cursor = refl;
}

module _ (s : Setup) (ok : IsSetup s) (r : Readings) (o : IsOpening s r) (passes : ℕ) (few : passes ≤ 64) where
  abbrev all : List Account
  all = replicate passes (blank true)

  none : (f : Account → ℕ) → f (blank true) ≡ 0 → total f all ≡ 0
  none f z = total_blank f passes z

  pins_below : (e : ℕ) → e < net_count s.graph → All (λ v. block_of s.opening v < s.blocks) (net_of s.graph e).pins
  pins_below e l k d q =
      let net = ok.graph.nets e (record { weight = 0; pins = [] }) l in
      let v = net.pins k d q in
      let wide = ok.opening.vertices in
      ok.opening.blocks (get_or (net_of s.graph e).pins k d) 0 (omega arith)

  price_opened : (e : ℕ) → e < net_count s.graph → price_at s.graph e (r.spread e) ≡ net_cost s.graph.objective s.opening (net_of s.graph e)
  price_opened e l =
      let a = o.spread e l in
      let c = connectivity-sum s.blocks s.opening (net_of s.graph e).pins (pins_below e l) in
      let q : r.spread e - 64 ≡ connectivity s.opening (net_of s.graph e).pins = omega arith in
      ap (λ x. (net_of s.graph e).weight * price s.graph.objective x) q

  blank_moves : (i : ℕ) → (account_in all i).moves ≡ []
  blank_moves i =
      elim (cases_lt i passes) [
        | inl l ↦ ap (λ (a : Account). a.moves) (get_or-replicate passes i (blank true) (blank false) l)
        | inr m ↦ ap (λ (a : Account). a.moves) (get_or_past all i (blank false) (let e = length-replicate passes (blank true) in omega arith))
      ]

  pub opening_balance : InBalance s r all
  opening_balance = record {
    claims = record {
      word = λ v l. o.claim v l ∙ sym (none (λ a. times v a.held) refl);
      once = λ v l. let e = o.claim v l in omega arith;
      free = λ v l f. o.claim v l;
      range = All_blank (λ a. All (λ v. v < vertex_count s.graph) a.held) passes (All-nil (λ v. v < vertex_count s.graph));
    };
    loads = record {
      word = λ b l.
          let e = o.load b l in
          let x = none (λ a. departed s.graph b a.moves) refl in
          let y = none (λ a. reserved_weight s.graph b a.stage + arrived s.graph b a.moves) refl in
          omega arith;
      limit = λ b l.
          let e = o.load b l in
          let f = ok.fits b l in
          omega arith;
    };
    names = record {
      done = All_blank (λ a. All (λ m. r.name m.vertex ≡ m.to) a.moves) passes (All-nil (λ (m : Move). r.name m.vertex ≡ m.to));
      stages = All_blank (λ a. IsNamed r.name a.stage) passes tt;
      others = λ v l z. o.name v l;
    };
    counts = record {
      word = λ e b le lb.
          let pins = (net_of s.graph e).pins in
          let c = o.count e b le lb in
          let x = total-zero (λ u. if nat_eq (block_of s.opening u) b then total (lowers s.graph u e) all else 0) pins
          (λ k d q. ap (λ z. if nat_eq (block_of s.opening (get_or pins k d)) b then z else 0) (none (lowers s.graph (get_or pins k d) e) refl)
          ∙ zero_if (nat_eq (block_of s.opening (get_or pins k d)) b)) in
          let y = total-same_each (λ u. (if nat_eq (block_of s.opening u) b then 1 else 0) + total (raises s.graph u e b) all)
          (λ u. if nat_eq (block_of s.opening u) b then 1 else 0) (λ u. let z = none (raises s.graph u e b) refl in omega arith) pins in
          omega arith;
      steps = All_blank (λ a. IsInStep s.graph a.stage) passes tt;
    };
    moves = record {
      held = All_blank (λ a. (v : ℕ) → times v (carried a) ≤ times v a.held) passes (λ v. omega arith);
      done = All_blank (λ a. All (λ m. IsMoveFromOpening s m.vertex m.from m.to) a.moves) passes
          (All-nil (λ (m : Move). IsMoveFromOpening s m.vertex m.from m.to));
      stages = All_blank (λ a. IsStageMove s a.stage) passes tt;
    };
    numbers = record {
      each = λ i. none (λ a. times i (drawn a)) refl ∙ sym (ap (λ n. if nat_lt i n then 1 else 0) o.next
          ∙ ap (λ b. if b then 1 else 0) (le-ltb i 0 (omega arith)));
      lengths = All_blank (λ a. length a.numbers ≡ length a.moves) passes refl;
    };
    gains = All_blank IsGain passes refl;
    sum = record {
      gains =
          let a = total_z-zero (λ (x : Account). x.gain) all (All_blank (λ x. x.gain ≡ pos 0) passes refl) in
          let b = sum_below-same (λ e. price_at s.graph e (r.spread e)) (λ e. net_cost s.graph.objective s.opening (net_of s.graph e)) (net_count s.graph)
          price_opened in
          let c = total-by_index (net_cost s.graph.objective s.opening) (record { weight = 0; pins = [] }) s.graph.nets in
          omega (arith, ints);
    };
    rest = record {
      made = let e = length-replicate passes (blank true) in omega arith;
      cursor = o.cursor ∙ sym (none (λ a. a.seeds) refl);
      seeds =
          let e = total-replicate seed_room passes (blank true) in
          let q : 2 ^ 32 * length all ≡ 2 ^ 32 * passes = ap (λ n. 2 ^ 32 * n) (length-replicate passes (blank true)) in
          let m : passes * seed_room (blank true) ≡ passes * 2 ^ 32 = refl in
          omega arith;
      ended = All_blank (λ a. a.live ≡ false → a ≡ blank false) passes (λ q. absurd (true≢false q));
    };
    spreads = record {
      word = λ e le.
          let a = o.spread e le in
          let x = none (λ y. owed_up s.graph e y.stage) refl in
          let y = none (λ z. owed_down s.graph e z.stage) refl in
          let p = sum_below-same (λ b. present (r.count e b)) (λ b. present (opening_pins s e b)) s.blocks (λ b lb. ap present (o.count e b le lb)) in
          omega arith;
      owed = All_blank (λ a. IsOwing a.stage) passes tt;
    };
    bounds = record {
      done = All_blank (λ a. All (λ m. IsBetween (weights_of s.graph (nets_of s.graph m.vertex)) (weights_of s.graph (nets_of s.graph m.vertex)) m.booked)
          a.moves) passes (All-nil (λ (m : Move). IsBetween (weights_of s.graph (nets_of s.graph m.vertex)) (weights_of s.graph (nets_of s.graph m.vertex))
          m.booked));
      stages = All_blank (λ a. IsBookedWithin s.graph a.stage) passes tt;
    };
    workers = workers_blank all (λ i. blank_moves i);
    prefixes = record {
      fit = λ i b l.
          let x = none (λ a. arrived s.graph b (moves_before i a)) refl in
          let f = ok.fits b l in
          omega arith;
    };
  }
    where
      zero_if : (p : Bool) → ◌≡◌ {A = ℕ} (if p then 0 else 0) 0
      zero_if true = refl
      zero_if false = refl

pub opened_shape : (s : Setup) → IsSetup s → (passes : ℕ) → IsShaped (opened s passes)
opened_shape s ok passes = record {
  claims = length-replicate (vertex_count s.graph) 0;
  names = ok.opening.vertices;
  loads = length-map-range_with_len (load s.graph s.opening) 0 s.blocks;
  counts = length-opened_counts s;
  spreads = length-map-range_with_len (λ e. 64 + present_below (opening_pins s e) s.blocks) 0 (net_count s.graph);
}

-- the books at the opening
pub opened_books : (s : Setup) → IsSetup s → (passes : ℕ) → passes ≤ 64 → IsBooks (opened s passes)
opened_books s ok passes few = record {
  setup = ok;
  shape = opened_shape s ok passes;
  balance = opening_balance s ok (readings (opened s passes)) (opened_reads s passes) passes few;
}
