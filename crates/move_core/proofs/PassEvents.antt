-- The books stay in balance over Split and Join.
use Rattle.std.proofs.Common.{◌≡◌, ℕ, ◌+◌, ◌*◌, ◌^◌, ◌<◌, ◌≤◌, ◌≢◌, inl, inr, Bool, true, false, List, [], ◌∷◌, ◌++◌, map, length, length-append}
use Rattle.std.proofs.Common.{get_or, set, nat_eq, nat_lt, if◌then◌else◌, All, ℤ, pos, ◌+ℤ◌, refl, sym, ap, ◌∙◌, arith}
use Rattle.std.proofs.lemmas.Int.{ints}
use Rattle.std.proofs.lemmas.Bool.{true≢false}
use Rattle.hg_defs.specs.declared.moves.Move.{Move}
use Rattle.hg_defs.specs.Sums.{total, total_z}
use Rattle.hg_defs.specs.Hypergraph.{vertex_count, net_of, weight_of}
use Rattle.hg_defs.specs.Partition.{block_of}
use Rattle.hg_defs.proofs.SumLaws.{weight_if, total-append, total-same_each}
use Rattle.move_core.specs.declared.account.Account.{Account}
use Rattle.move_core.specs.declared.account.Stage.TheVariants.{Idle}
use Rattle.hg_defs.specs.Incidence.{nets_of}
use Rattle.move_core.specs.State.{Setup, Readings, account_in, times, blank}
use Rattle.move_core.specs.Balance.{InBalance, IsGain, IsMoveFromOpening, IsStageMove, IsInStep, IsOwing, IsBetween, IsBookedWithin}
use Rattle.move_core.specs.Balance.{carried, drawn, lowers, reserved_weight, refused_weight, weights_of}
use Rattle.move_core.proofs.TimesLaws.{all_at}
use Rattle.move_core.proofs.StageEvents.{staged}
use Rattle.std.proofs.Common.{get_or-set_other, length-set, max}
use Rattle.std.proofs.lemmas.List.{map-append}
use Rattle.std.proofs.lemmas.List.Elements.{All-append, All-cons, All-nil, All-set}
use Rattle.std.proofs.lemmas.Bool.{cases_lt}
use Rattle.hg_defs.proofs.SumLaws.{total_push, total_z_push, total_z-append, total-set, total_z-set}
use Rattle.move_core.specs.Events.{joined_with}
use Rattle.move_core.specs.Balance.{IsNamed, renamed, raises, owed_up, owed_down, departed, arrived, moves_before}
use Rattle.move_core.proofs.RestLaws.{seed_room}
use Rattle.move_core.proofs.WorkerLaws.{workers_split, workers_joined}
use Rattle.move_core.proofs.PrefixLaws.{total-numbered}
use Rattle.move_core.proofs.HeldLaws.{total_two, held_once}
use Rattle.move_core.proofs.TimesLaws.{times-all_inserted, All-all_inserted, All_at_times}

-- an account added at the end, of which each fact is clear
All_push : (P : Account → Type 0) (accounts : List Account) → All P accounts → P (blank true) → All P (accounts ++ blank true ∷ [])
All_push P accounts h p = All-append P accounts (blank true ∷ []) h (All-cons P (blank true) [] p (All-nil P))

zero_if : (p : Bool) → ◌≡◌ {A = ℕ} (if p then 0 else 0) 0
zero_if true = refl
zero_if false = refl

-- Split
pub split_kept : (s : Setup) (r : Readings) (accounts : List Account) → InBalance s r accounts → length accounts < 64
    → InBalance s r (accounts ++ blank true ∷ [])
split_kept s r accounts b room = record {
  claims = record {
    word = λ v k. b.claims.word v k ∙ sym (same (λ a. times v a.held) refl);
    once = b.claims.once;
    free = b.claims.free;
    range = All_push (λ a. All (λ v. v < vertex_count s.graph) a.held) accounts b.claims.range (All-nil (λ v. v < vertex_count s.graph));
  };
  loads = record {
    word = λ c k.
        let x = same (λ a. departed s.graph c a.moves) refl in
        let y = same (λ a. reserved_weight s.graph c a.stage + arrived s.graph c a.moves) refl in
        let z = b.loads.word c k in
        omega arith;
    limit = λ c k. let x = same (λ a. refused_weight s.graph c a.stage) refl in let z = b.loads.limit c k in omega arith;
  };
  names = record {
    done = All_push (λ a. All (λ m. r.name m.vertex ≡ m.to) a.moves) accounts b.names.done (All-nil (λ (m : Move). r.name m.vertex ≡ m.to));
    stages = All_push (λ a. IsNamed r.name a.stage) accounts b.names.stages tt;
    others = λ v k z. b.names.others v k (sym (same (λ a. times v (renamed a)) refl) ∙ z);
  };
  counts = record {
    word = λ e c k q.
        let pins = (net_of s.graph e).pins in
        let f = total-same_each (λ u. if nat_eq (block_of s.opening u) c then total (lowers s.graph u e) (accounts ++ blank true ∷ []) else 0)
        (λ u. if nat_eq (block_of s.opening u) c then total (lowers s.graph u e) accounts else 0)
        (λ u. ap (λ x. if nat_eq (block_of s.opening u) c then x else 0) (same (lowers s.graph u e) refl)) pins in
        let g = total-same_each (λ u. (if nat_eq (block_of s.opening u) c then 1 else 0) + total (raises s.graph u e c) (accounts ++ blank true ∷ []))
        (λ u. (if nat_eq (block_of s.opening u) c then 1 else 0) + total (raises s.graph u e c) accounts)
        (λ u. ap (λ x. (if nat_eq (block_of s.opening u) c then 1 else 0) + x) (same (raises s.graph u e c) refl)) pins in
        let w = b.counts.word e c k q in
        omega arith;
    steps = All_push (λ a. IsInStep s.graph a.stage) accounts b.counts.steps tt;
  };
  moves = record {
    held = All_push (λ a. (v : ℕ) → times v (carried a) ≤ times v a.held) accounts b.moves.held (λ v. omega arith);
    done = All_push (λ a. All (λ m. IsMoveFromOpening s m.vertex m.from m.to) a.moves) accounts b.moves.done
        (All-nil (λ (m : Move). IsMoveFromOpening s m.vertex m.from m.to));
    stages = All_push (λ a. IsStageMove s a.stage) accounts b.moves.stages tt;
  };
  numbers = record {
    each = λ j. same (λ a. times j (drawn a)) refl ∙ b.numbers.each j;
    lengths = All_push (λ a. length a.numbers ≡ length a.moves) accounts b.numbers.lengths refl;
  };
  gains = All_push IsGain accounts b.gains refl;
  sum = record { gains = let x = total_z_push (λ (a : Account). a.gain) accounts (blank true) in let y = b.sum.gains in omega (arith, ints) };
  rest = record {
    made = let x = length-append accounts (blank true ∷ []) in omega arith;
    cursor = b.rest.cursor ∙ sym (same (λ a. a.seeds) refl);
    seeds =
        let x = total_push seed_room accounts (blank true) in
        let y = b.rest.seeds in
        let z : 2 ^ 32 * length (accounts ++ blank true ∷ []) ≡ 2 ^ 32 * (length accounts + 1) =
        ap (λ n. 2 ^ 32 * n) (length-append accounts (blank true ∷ [])) in
        let m : seed_room (blank true) ≡ 2 ^ 32 = refl in
        omega arith;
    ended = All_push (λ a. a.live ≡ false → a ≡ blank false) accounts b.rest.ended (λ q. absurd (true≢false q));
  };
  spreads = record {
    word = λ e k.
        let x = same (λ a. owed_up s.graph e a.stage) refl in
        let y = same (λ a. owed_down s.graph e a.stage) refl in
        let z = b.spreads.word e k in
        omega arith;
    owed = All_push (λ a. IsOwing a.stage) accounts b.spreads.owed tt;
  };
  bounds = record {
    done = All_push (λ a. All (λ m. IsBetween (weights_of s.graph (nets_of s.graph m.vertex)) (weights_of s.graph (nets_of s.graph m.vertex)) m.booked)
        a.moves) accounts b.bounds.done (All-nil (λ (m : Move). IsBetween (weights_of s.graph (nets_of s.graph m.vertex))
        (weights_of s.graph (nets_of s.graph m.vertex)) m.booked));
    stages = All_push (λ a. IsBookedWithin s.graph a.stage) accounts b.bounds.stages tt;
  };
  workers = workers_split accounts b.workers;
  prefixes = record {
    fit = λ j c k.
        let x = same (λ a. arrived s.graph c (moves_before j a)) refl in
        let y = same (λ a. departed s.graph c (moves_before j a)) refl in
        let z = b.prefixes.fit j c k in
        omega arith;
  };
}
  where
    same : (f : Account → ℕ) → f (blank true) ≡ 0 → total f (accounts ++ blank true ∷ []) ≡ total f accounts
    same f z = let e = total_push f accounts (blank true) in omega arith

-- a number that stands among numbers below n is below n
times-past : (n : ℕ) (xs : List ℕ) → All (λ v. v < n) xs → (u : ℕ) → n ≤ u → times u xs ≡ 0
times-past n xs h u k =
    elim (cases_lt 0 (times u xs)) [
      | inl p ↦ let x = All_at_times (λ v. v < n) xs u h p in absurd (omega arith)
      | inr q ↦ omega arith
    ]

module _ (accounts : List Account) (i j : ℕ) (a other a' : Account) (li : i < length accounts) (lj : j < length accounts) (apart : i ≢ j)
    (at : get_or accounts i (blank false) ≡ a) (at' : get_or accounts j (blank false) ≡ other) where
  abbrev after_join : List Account
  after_join = set (set accounts i a') j (blank false)

  total_joined_by : (f : Account → ℕ) → f (blank false) ≡ 0 → total f after_join + f a + f other ≡ total f accounts + f a'
  total_joined_by f z =
      let x = total-set f accounts i a' (blank false) li in
      let y = total-set f (set accounts i a') j (blank false) (blank false) (omega (arith, length-set accounts i a')) in
      let o = ap f (get_or-set_other accounts i j a' (blank false) (λ e. apart (sym e))) in
      let p = ap f at in
      let q = ap f at' in
      omega arith

  total_joined : (f : Account → ℕ) → f (blank false) ≡ 0 → f a' ≡ f a + f other → total f after_join ≡ total f accounts
  total_joined f z e = let x = total_joined_by f z in omega arith

  total_z_joined : (f : Account → ℤ) → f (blank false) ≡ pos 0 → f a' ≡ f a +ℤ f other → total_z f after_join ≡ total_z f accounts
  total_z_joined f z e =
      let x = total_z-set f accounts i a' (blank false) li in
      let y = total_z-set f (set accounts i a') j (blank false) (blank false) (omega (arith, length-set accounts i a')) in
      let o = ap f (get_or-set_other accounts i j a' (blank false) (λ q. apart (sym q))) in
      let p = ap f at in
      let q = ap f at' in
      omega (arith, ints)

  all_joined : (P : Account → Type 0) → All P accounts → P a' → P (blank false) → All P after_join
  all_joined P h p q = All-set P (set accounts i a') j (blank false) q (All-set P accounts i a' p h)

-- Join
module _ (s : Setup) (r : Readings) (accounts : List Account) (i j : ℕ) (li : i < length accounts) (lj : j < length accounts) (apart : i ≢ j)
    (b : InBalance s r accounts) (held held' : List ℕ) (moves moves' : List Move) (numbers numbers' : List ℕ) (seeds seeds' : ℕ) (gain gain' : ℤ)
    (at : get_or accounts i (blank false) ≡ staged held moves numbers seeds gain Idle)
    (at' : get_or accounts j (blank false) ≡ staged held' moves' numbers' seeds' gain' Idle) where
  abbrev one : Account
  one = staged held moves numbers seeds gain Idle

  abbrev two : Account
  two = staged held' moves' numbers' seeds' gain' Idle

  abbrev both : Account
  both = joined_with one two

  same : (f : Account → ℕ) → f (blank false) ≡ 0 → f both ≡ f one + f two → total f (set (set accounts i both) j (blank false)) ≡ total f accounts
  same = total_joined accounts i j one two both li lj apart at at'

  all_both : (P : Account → Type 0) → All P accounts → P both → P (blank false) → All P (set (set accounts i both) j (blank false))
  all_both = all_joined accounts i j one two both li lj apart at at'

  first : (P : Account → Type 0) → All P accounts → P one
  first P h = all_at accounts i one one li at P h

  second : (P : Account → Type 0) → All P accounts → P two
  second P h = all_at accounts j two two lj at' P h

  disjoint : (u : ℕ) → times u held + times u held' ≤ 1
  disjoint u =
      elim (cases_lt u (vertex_count s.graph)) [
        | inl k ↦
            let t = total_two (λ a. times u a.held) accounts i j (blank false) refl li lj (λ e. apart (sym e)) in
            let o = held_once s r accounts b.claims b.moves u k in
            let x : times u (get_or accounts i (blank false)).held ≡ times u held = ap (λ (a : Account). times u a.held) at in
            let y : times u (get_or accounts j (blank false)).held ≡ times u held' = ap (λ (a : Account). times u a.held) at' in
            omega arith
        | inr k ↦
            let x = times-past (vertex_count s.graph) held (first (λ a. All (λ v. v < vertex_count s.graph) a.held) b.claims.range) u k in
            let y = times-past (vertex_count s.graph) held' (second (λ a. All (λ v. v < vertex_count s.graph) a.held) b.claims.range) u k in
            omega arith
      ]

  moved_both : (u : ℕ) → times u (map (λ (m : Move). m.vertex) (moves ++ moves')) ≡ times u (map (λ (m : Move). m.vertex) moves)
      + times u (map (λ (m : Move). m.vertex) moves')
  moved_both u =
      let x = ap (times u) (map-append (λ (m : Move). m.vertex) moves moves') in
      let y = total-append (λ z. weight_if z u 1) (map (λ (m : Move). m.vertex) moves) (map (λ (m : Move). m.vertex) moves') in
      omega arith

  padded : (u : ℕ) (xs : List ℕ) → times u (xs ++ []) ≡ times u xs
  padded u xs = let x = total-append (λ z. weight_if z u 1) xs [] in omega arith

  abbrev done : List Move → List ℕ
  done ms = map (λ (m : Move). m.vertex) ms

  before_both : (f : Move → ℕ) (n : ℕ) → total f (moves_before n both) ≡ total f (moves_before n one) + total f (moves_before n two)
  before_both f n =
      let t : ℕ → Bool = λ x. nat_lt x n in
      let size = first (λ a. length a.numbers ≡ length a.moves) b.numbers.lengths in
      let size' = second (λ a. length a.numbers ≡ length a.moves) b.numbers.lengths in
      let x = total-numbered f t (numbers ++ numbers') [] (moves ++ moves') []
      (let p = length-append numbers numbers' in let q = length-append moves moves' in omega arith) in
      let y = total-numbered f t numbers numbers' moves moves' size in
      let u = total-numbered f t numbers [] moves [] size in
      let v = total-numbered f t numbers' [] moves' [] size' in
      omega arith

  pub join_kept : InBalance s r (set (set accounts i both) j (blank false))
  join_kept = record {
    claims = record {
      word = λ v k. b.claims.word v k ∙ sym (same (λ a. times v a.held) refl (times-all_inserted held held' disjoint v));
      once = b.claims.once;
      free = b.claims.free;
      range = all_both (λ a. All (λ v. v < vertex_count s.graph) a.held) b.claims.range
          (All-all_inserted (λ v. v < vertex_count s.graph) held held' (first (λ a. All (λ v. v < vertex_count s.graph) a.held) b.claims.range)
          (second (λ a. All (λ v. v < vertex_count s.graph) a.held) b.claims.range))
          (All-nil (λ v. v < vertex_count s.graph));
    };
    loads = record {
      word = λ c k.
          let x = same (λ a. departed s.graph c a.moves) refl (total-append (λ (m : Move). if nat_eq m.from c then weight_of s.graph m.vertex else 0)
          moves moves') in
          let y = same (λ a. reserved_weight s.graph c a.stage + arrived s.graph c a.moves) refl
          (let e = total-append (λ (m : Move). if nat_eq m.to c then weight_of s.graph m.vertex else 0) moves moves' in omega arith) in
          let z = b.loads.word c k in
          omega arith;
      limit = λ c k. let x = same (λ a. refused_weight s.graph c a.stage) refl refl in let z = b.loads.limit c k in omega arith;
    };
    names = record {
      done = all_both (λ a. All (λ m. r.name m.vertex ≡ m.to) a.moves) b.names.done
          (All-append (λ (m : Move). r.name m.vertex ≡ m.to) moves moves' (first (λ a. All (λ m. r.name m.vertex ≡ m.to) a.moves) b.names.done)
          (second (λ a. All (λ m. r.name m.vertex ≡ m.to) a.moves) b.names.done))
          (All-nil (λ (m : Move). r.name m.vertex ≡ m.to));
      stages = all_both (λ a. IsNamed r.name a.stage) b.names.stages tt tt;
      others = λ v k z.
          b.names.others v k
          (sym (same (λ a. times v (renamed a)) refl
          (let x = moved_both v in
          let p = padded v (done (moves ++ moves')) in
          let q = padded v (done moves) in
          let t = padded v (done moves') in
          omega arith))
          ∙ z);
    };
    counts = record {
      word = λ e c k q.
          let pins = (net_of s.graph e).pins in
          let f = total-same_each (λ u. if nat_eq (block_of s.opening u) c then total (lowers s.graph u e)
          (set (set accounts i both) j (blank false)) else 0)
          (λ u. if nat_eq (block_of s.opening u) c then total (lowers s.graph u e) accounts else 0)
          (λ u. ap (λ x. if nat_eq (block_of s.opening u) c then x else 0) (same (lowers s.graph u e) refl (let x = moved_both u in omega arith))) pins in
          let g = total-same_each (λ u. (if nat_eq (block_of s.opening u) c then 1 else 0)
          + total (raises s.graph u e c) (set (set accounts i both) j (blank false)))
          (λ u. (if nat_eq (block_of s.opening u) c then 1 else 0) + total (raises s.graph u e c) accounts)
          (λ u. ap (λ x. (if nat_eq (block_of s.opening u) c then 1 else 0) + x) (same (raises s.graph u e c) refl
          (let x = total-append (λ (m : Move). if nat_eq m.vertex u then (if nat_eq m.to c then 1 else 0) else 0) moves moves' in omega arith))) pins in
          let w = b.counts.word e c k q in
          omega arith;
      steps = all_both (λ a. IsInStep s.graph a.stage) b.counts.steps tt tt;
    };
    moves = record {
      held = all_both (λ a. (v : ℕ) → times v (carried a) ≤ times v a.held) b.moves.held
          (λ v.
          let x = moved_both v in
          let p = padded v (done (moves ++ moves')) in
          let q = padded v (done moves) in
          let t = padded v (done moves') in
          let e = times-all_inserted held held' disjoint v in
          let f = first (λ a. (u : ℕ) → times u (carried a) ≤ times u a.held) b.moves.held v in
          let g = second (λ a. (u : ℕ) → times u (carried a) ≤ times u a.held) b.moves.held v in
          omega arith)
          (λ v. omega arith);
      done = all_both (λ a. All (λ m. IsMoveFromOpening s m.vertex m.from m.to) a.moves) b.moves.done
          (All-append (λ (m : Move). IsMoveFromOpening s m.vertex m.from m.to) moves moves'
          (first (λ a. All (λ m. IsMoveFromOpening s m.vertex m.from m.to) a.moves) b.moves.done)
          (second (λ a. All (λ m. IsMoveFromOpening s m.vertex m.from m.to) a.moves) b.moves.done))
          (All-nil (λ (m : Move). IsMoveFromOpening s m.vertex m.from m.to));
      stages = all_both (λ a. IsStageMove s a.stage) b.moves.stages tt tt;
    };
    numbers = record {
      each = λ n.
          same (λ a. times n (drawn a)) refl
          (let x = total-append (λ z. weight_if z n 1) numbers numbers' in
          let p = padded n (numbers ++ numbers') in
          let q = padded n numbers in
          let t = padded n numbers' in
          omega arith)
          ∙ b.numbers.each n;
      lengths = all_both (λ a. length a.numbers ≡ length a.moves) b.numbers.lengths
          (let x = length-append numbers numbers' in
          let y = length-append moves moves' in
          let p = first (λ a. length a.numbers ≡ length a.moves) b.numbers.lengths in
          let q = second (λ a. length a.numbers ≡ length a.moves) b.numbers.lengths in
          omega arith)
          refl;
    };
    gains = all_both IsGain b.gains
        (let x = total_z-append (λ (m : Move). m.booked) moves moves' in
        let p = first IsGain b.gains in
        let q = second IsGain b.gains in
        omega (arith, ints))
        refl;
    sum = record {
      gains =
          let x = total_z_joined accounts i j one two both li lj apart at at' (λ (a : Account). a.gain) refl refl in
          let y = b.sum.gains in
          omega (arith, ints);
    };
    rest = record {
      made = let x = length-set (set accounts i both) j (blank false) in let y = length-set accounts i both in let z = b.rest.made in omega arith;
      cursor = b.rest.cursor ∙ sym (same (λ a. a.seeds) refl refl);
      seeds =
          let x = total_joined_by accounts i j one two both li lj apart at at' seed_room refl in
          let y = b.rest.seeds in
          let z : 2 ^ 32 * length (set (set accounts i both) j (blank false)) ≡ 2 ^ 32 * length accounts =
          ap (λ n. 2 ^ 32 * n) (length-set (set accounts i both) j (blank false) ∙ length-set accounts i both) in
          let p : seed_room one ≡ max (2 ^ 32) seeds = refl in
          let q : seed_room two ≡ max (2 ^ 32) seeds' = refl in
          let t : seed_room both ≡ max (2 ^ 32) (seeds + seeds') = refl in
          omega arith;
      ended = all_both (λ a. a.live ≡ false → a ≡ blank false) b.rest.ended (λ q. absurd (true≢false q)) (λ q. refl);
    };
    spreads = record {
      word = λ e k.
          let x = same (λ a. owed_up s.graph e a.stage) refl refl in
          let y = same (λ a. owed_down s.graph e a.stage) refl refl in
          let z = b.spreads.word e k in
          omega arith;
      owed = all_both (λ a. IsOwing a.stage) b.spreads.owed tt tt;
    };
    bounds = record {
      done = all_both (λ a. All (λ m. IsBetween (weights_of s.graph (nets_of s.graph m.vertex)) (weights_of s.graph (nets_of s.graph m.vertex)) m.booked)
          a.moves) b.bounds.done
          (All-append (λ (m : Move). IsBetween (weights_of s.graph (nets_of s.graph m.vertex)) (weights_of s.graph (nets_of s.graph m.vertex)) m.booked)
          moves moves'
          (first (λ a. All (λ m. IsBetween (weights_of s.graph (nets_of s.graph m.vertex)) (weights_of s.graph (nets_of s.graph m.vertex)) m.booked)
          a.moves)
          b.bounds.done)
          (second (λ a. All (λ m. IsBetween (weights_of s.graph (nets_of s.graph m.vertex)) (weights_of s.graph (nets_of s.graph m.vertex)) m.booked)
          a.moves)
          b.bounds.done))
          (All-nil (λ (m : Move). IsBetween (weights_of s.graph (nets_of s.graph m.vertex)) (weights_of s.graph (nets_of s.graph m.vertex)) m.booked));
      stages = all_both (λ a. IsBookedWithin s.graph a.stage) b.bounds.stages tt tt;
    };
    workers = workers_joined accounts i j both li lj apart (ap (λ (z : Account). z.live) at) (ap (λ (z : Account). z.live) at')
        (ap (λ (z : Account). moves ++ z.moves) (sym at') ∙ ap (λ (z : Account). z.moves ++ (account_in accounts j).moves) (sym at)) b.workers;
    prefixes = record {
      fit = λ n c k.
          let x = same (λ a. arrived s.graph c (moves_before n a)) refl (before_both (λ m. if nat_eq m.to c then weight_of s.graph m.vertex else 0) n) in
          let y = same (λ a. departed s.graph c (moves_before n a)) refl (before_both (λ m. if nat_eq m.from c then weight_of s.graph m.vertex else 0) n) in
          let z = b.prefixes.fit n c k in
          omega arith;
    };
  }
