-- No word, gain or number of the books passes 64 bits.
use Rattle.std.proofs.Common.{◌≡◌, ℕ, zero, suc, ◌+◌, ◌-◌, ◌*◌, ◌^◌, ◌<◌, ◌≤◌, inl, inr, Bool, true, false, max, List, [], ◌∷◌, map, length}
use Rattle.std.proofs.Common.{length-append, get_or, if◌then◌else◌, All, ℤ, pos, ◌+ℤ◌, ◌≤ℤ◌, refl, sym, ap, ◌∙◌, subst, arith}
use Rattle.std.proofs.lemmas.Int.{ints}
use Rattle.std.proofs.lemmas.Grind.{get_or_default_zero}
use Rattle.std.proofs.Math.Nat.{mul-le-mul_left}
use Rattle.std.proofs.lemmas.Bool.{cases_lt, lt-ltb, le-ltb}
use Rattle.std.proofs.lemmas.List.Elements.{All-head, All-tail}
use Rattle.std.proofs.lemmas.List.{length-map}
use Rattle.hg_defs.specs.declared.moves.Move.{Move}
use Rattle.hg_defs.specs.Sums.{total, total_z, sum_below}
use Rattle.hg_defs.specs.Hypergraph.{Hyper, Net, IsWithinLimits, vertex_count, net_count, net_of, weight_of, total_weight}
use Rattle.hg_defs.specs.Pins.{present}
use Rattle.hg_defs.proofs.SumLaws.{weight_if, weight_if-le, total-le, total-same, total-append, total-ones, total-by_index, total_at-le, total-take-le}
use Rattle.hg_defs.proofs.SumLaws.{sum_below-total, sum_below-le, sum_below-same, sum_below-swap, sum_below-constant, sum_below-scale, sum_below-add}
use Rattle.hg_defs.proofs.SumLaws.{sum_below-only, sum_below-zero, weight_if-other, weight_in-le, total-scale_right}
use Rattle.hg_defs.proofs.DistinctLaws.{present-le}
use Rattle.move_core.specs.declared.account.Account.{Account}
use Rattle.move_core.specs.declared.account.Owed.TheVariants.{Nothing, Up, Down}
use Rattle.move_core.specs.declared.account.Stage.{Stage}
use Rattle.move_core.specs.declared.account.Stage.TheVariants.{Idle, Refused, Granted, Moving}
use Rattle.hg_defs.specs.Incidence.{nets_of}
use Rattle.move_core.specs.State.{Setup, Readings, times, blank}
use Rattle.move_core.specs.Events.{moved_vertices}
use Rattle.move_core.specs.Stages.{number_at, booked_at}
use Rattle.move_core.specs.Balance.{Claims, Moves, InBalance, IsBetween, IsBookedWithin, carried, drawn}
use Rattle.move_core.specs.Balance.{stage_vertices, reserved_weight, arrived, owed_down, weights_of}
use Rattle.move_core.proofs.RestLaws.{seed_room}
use Rattle.move_core.proofs.HeldLaws.{carried_below, carried_once, total-by_times}
use Rattle.move_core.proofs.NetLaws.{times-nets_of, has_pin, net_at-below}

-- what is summed over the vertices that passes carry is within the sum over all vertices
pub carried_sum : (s : Setup) (r : Readings) (accounts : List Account) → Claims s.graph r accounts → Moves s accounts → (g : ℕ → ℕ)
    → total (λ a. total g (carried a)) accounts ≤ sum_below g (vertex_count s.graph)
carried_sum s r accounts c m g =
    let n = vertex_count s.graph in
    let e1 = total-same (λ a. total g (carried a)) (λ a. sum_below (λ v. times v (carried a) * g v) n) accounts
    (λ k d l. total-by_times g n (carried (get_or accounts k d)) (carried_below s r accounts c m k d l)) in
    let e2 = sum_below-total (λ v a. times v (carried a) * g v) n accounts in
    let e3 = sum_below-le (λ v. total (λ a. times v (carried a) * g v) accounts) g n
    (λ v l. subst (λ z. z ≤ g v) (sym (total-scale_right (g v) (λ a. times v (carried a)) accounts))
    (within (total (λ a. times v (carried a)) accounts) (g v) (carried_once s r accounts c m v l))) in
    omega arith
  where
    within : (x y : ℕ) → x ≤ 1 → x * y ≤ y
    within zero y h = omega arith
    within (suc zero) y h = omega arith
    within (suc (suc x)) y h = absurd (omega arith)

-- the numbers below a bound that stand in a list
listed : (n : ℕ) (xs : List ℕ) → sum_below (λ i. times i xs) n ≤ length xs
listed n [] = let e = sum_below-constant 0 n in omega arith
listed n (x ∷ xs) =
    let e = listed n xs in
    let f = sum_below-add (λ i. weight_if x i 1) (λ i. times i xs) n in
    let g = single x n in
    omega arith
  where
    single : (y m : ℕ) → sum_below (λ i. weight_if y i 1) m ≤ 1
    single y m =
        elim (cases_lt y m) [
          | inl l ↦ let e = sum_below-only (λ i. weight_if y i 1) m y l (λ j q p. weight_if-other y j 1 (λ z. p (sym z))) in let w = weight_if-le y y 1 in
              omega arith
          | inr l ↦ let e = sum_below-zero (λ i. weight_if y i 1) m (λ j q. weight_if-other y j 1 (λ z. absurd (omega arith))) in omega arith
        ]

-- ---- loads

stage_weight-le : (h : Hyper) (b : ℕ) (stage : Stage) → reserved_weight h b stage ≤ total (weight_of h) (stage_vertices stage)
stage_weight-le h b Idle = omega arith
stage_weight-le h b (Refused v to seen) = let w = weight_if-le to b (weight_of h v) in omega arith
stage_weight-le h b (Granted v from to seen) = let w = weight_if-le to b (weight_of h v) in omega arith
stage_weight-le h b (Moving v from to number named raised lowered owed booked) = let w = weight_if-le to b (weight_of h v) in omega arith

arrived-le : (h : Hyper) (b : ℕ) (ms : List Move) → arrived h b ms ≤ total (weight_of h) (map (λ m. m.vertex) ms)
arrived-le h b [] = omega arith
arrived-le h b (m ∷ ms) = let e = arrived-le h b ms in let w = weight_if-le m.to b (weight_of h m.vertex) in omega arith

weights-sum : (ws : List ℕ) → sum_below (λ v. get_or ws v 0) (length ws) ≡ total (λ w. w) ws
weights-sum ws = sym (total-by_index (λ w. w) 0 ws)

module _ (s : Setup) (r : Readings) (accounts : List Account) (b : InBalance s r accounts) where
  pub load_small : (c : ℕ) → c < s.blocks → r.load c ≤ 2 * total_weight s.graph
  load_small c l =
      let w = b.loads.word c l in
      let x = total-le (λ a. reserved_weight s.graph c a.stage + arrived s.graph c a.moves) (λ a. total (weight_of s.graph) (carried a)) accounts
      (λ k d q.
      let a = get_or accounts k d in
      let e = stage_weight-le s.graph c a.stage in
      let f = arrived-le s.graph c a.moves in
      let g = total-append (weight_of s.graph) (moved_vertices a) (stage_vertices a.stage) in
      omega arith) in
      let y = carried_sum s r accounts b.claims b.moves (weight_of s.graph) in
      let z = weights-sum s.graph.weights in
      let o = weight_in-le s.graph.weights s.opening c in
      omega arith

  -- ---- numbers

  pub next_small : r.next ≤ vertex_count s.graph
  next_small =
      let n = r.next in
      let a = sum_below-same (λ i. total (λ x. times i (drawn x)) accounts) (λ i. 1) n (λ i l. b.numbers.each i ∙ ap (λ t. if t then 1 else 0)
      (lt-ltb i n l))
      in
      let c = sum_below-constant 1 n in
      let d = sum_below-total (λ i x. times i (drawn x)) n accounts in
      let e = total-le (λ x. sum_below (λ i. times i (drawn x)) n) (λ x. total (λ v. 1) (carried x)) accounts
      (λ k y l.
      let x = get_or accounts k y in
      let p = listed n (drawn x) in
      let q = length-append x.numbers (number_at x.stage) in
      let t = b.numbers.lengths k y l in
      let u = total-ones (carried x) in
      let v = length-append (moved_vertices x) (stage_vertices x.stage) in
      let w = length-map x.moves (λ (m : Move). m.vertex) in
      let z = one_number x.stage in
      omega arith) in
      let f = carried_sum s r accounts b.claims b.moves (λ v. 1) in
      let g = sum_below-constant 1 (vertex_count s.graph) in
      omega arith
    where
      one_number : (stage : Stage) → length (number_at stage) ≤ length (stage_vertices stage)
      one_number Idle = omega arith
      one_number (Refused v to seen) = omega arith
      one_number (Granted v from to seen) = omega arith
      one_number (Moving v from to number named raised lowered owed booked) = omega arith

  -- ---- spreads

  pub spread_small : (e : ℕ) → e < net_count s.graph → r.spread e ≤ 128 + s.blocks
  spread_small e l =
      let w = b.spreads.word e l in
      let d = total-le (λ x. owed_down s.graph e x.stage) (λ x. 1) accounts (λ k y q. owed_down-le (get_or accounts k y).stage) in
      let o = total-ones accounts in
      let p = sum_below-le (λ c. present (r.count e c)) (λ c. 1) s.blocks (λ c q. present-le (r.count e c)) in
      let q = sum_below-constant 1 s.blocks in
      let m = b.rest.made in
      omega arith
    where
      owed_down-le : (stage : Stage) → owed_down s.graph e stage ≤ 1
      owed_down-le Idle = omega arith
      owed_down-le (Refused v to seen) = omega arith
      owed_down-le (Granted v from to seen) = omega arith
      owed_down-le (Moving v from to number named raised lowered Nothing booked) = omega arith
      owed_down-le (Moving v from to number named raised lowered Up booked) = omega arith
      owed_down-le (Moving v from to number named raised lowered Down booked) = weight_if-le _ e 1

  -- ---- seeds

  pub cursor_small : r.cursor ≤ 2 ^ 38
  cursor_small =
      let c = b.rest.cursor in
      let w = b.rest.seeds in
      let m = b.rest.made in
      let t = total-le (λ (a : Account). a.seeds) seed_room accounts (λ k d l. room (get_or accounts k d) (b.rest.ended k d l)) in
      omega arith
    where
      room : (a : Account) → (a.live ≡ false → a ≡ blank false) → a.seeds ≤ seed_room a
      room a h = by a.live refl
        where
          by : (z : Bool) → a.live ≡ z → a.seeds ≤ seed_room a
          by true e = let x = ap (λ t. if t then max (2 ^ 32) a.seeds else 0) e in omega arith
          by false e = let x = ap (λ (y : Account). y.seeds) (h e) in omega arith

  pub seeds_small : (k : ℕ) (d : Account) → k < length accounts → (get_or accounts k d).seeds ≤ 2 ^ 38
  seeds_small k d l =
      let c = b.rest.cursor in
      let x = total_at-le (λ (a : Account). a.seeds) accounts k d l in
      let y = cursor_small in
      omega arith

-- ---- gains

-- the weight of the nets of a vertex
abbrev pub vertex_weights : Hyper → ℕ → ℕ
vertex_weights h v = weights_of h (nets_of h v)

has_pin-le_times : (h : Hyper) (v e : ℕ) → has_pin h v e ≤ times v (net_of h e).pins
has_pin-le_times h v e =
    elim (cases_lt 0 (times v (net_of h e).pins)) [
      | inl l ↦ subst (λ b. (if b then 1 else 0) ≤ times v (net_of h e).pins) (sym (lt-ltb 0 (times v (net_of h e).pins) l)) (omega arith)
      | inr m ↦ subst (λ b. (if b then 1 else 0) ≤ times v (net_of h e).pins) (sym (le-ltb 0 (times v (net_of h e).pins) m)) (omega arith)
    ]

-- each pin adds the weight of its net once
pub vertex_weights-sum : (h : Hyper) → sum_below (vertex_weights h) (vertex_count h) ≤ total (λ e. e.weight * length e.pins) h.nets
vertex_weights-sum h =
    let n = vertex_count h in
    let m = net_count h in
    let w : ℕ → ℕ = λ e. (net_of h e).weight in
    let a = sum_below-le (vertex_weights h) (λ v. sum_below (λ e. times v (net_of h e).pins * w e) m) n
    (λ v l.
    let x = total-by_times w m (nets_of h v) (λ k d q. let z = get_or_default_zero (nets_of h v) k d q in let y = net_at-below h v k q in omega arith) in
    let y = sum_below-le (λ e. times e (nets_of h v) * w e) (λ e. times v (net_of h e).pins * w e) m
    (λ e q. scaled (times e (nets_of h v)) (times v (net_of h e).pins) (w e)
    (let z = times-nets_of h v e q in let u = has_pin-le_times h v e in omega arith)) in
    omega arith) in
    let b = sum_below-swap (λ v e. times v (net_of h e).pins * w e) n m in
    let c = sum_below-le (λ e. sum_below (λ v. times v (net_of h e).pins * w e) n) (λ e. (net_of h e).weight * length (net_of h e).pins) m
    (λ e q.
    let x = sum_below-same (λ v. times v (net_of h e).pins * w e) (λ v. w e * times v (net_of h e).pins) n
    (λ v l. turned (times v (net_of h e).pins) (w e)) in
    let y = sum_below-scale (w e) (λ v. times v (net_of h e).pins) n in
    let z = listed n (net_of h e).pins in
    let u = mul-le-mul_left (w e) z in
    omega arith) in
    let d = total-by_index (λ (e : Net). e.weight * length e.pins) (record { weight = 0; pins = [] }) h.nets in
    omega arith
  where
    turned : (x y : ℕ) → x * y ≡ y * x
    turned x y = omega arith

    scaled : (x y z : ℕ) → x ≤ y → x * z ≤ y * z
    scaled x y z q = let u = mul-le-mul_left z q in let t = turned x z in let v = turned y z in omega arith

-- a sum of bookings, each within twice a weight
moves_between : (h : Hyper) (ms : List Move) → All (λ m. IsBetween (vertex_weights h m.vertex) (vertex_weights h m.vertex) m.booked) ms
    → IsBetween (total (vertex_weights h) (map (λ m. m.vertex) ms)) (total (vertex_weights h) (map (λ m. m.vertex) ms)) (total_z (λ m. m.booked) ms)
moves_between h [] q = record { low = omega (arith, ints); high = omega (arith, ints) }
moves_between h (m ∷ ms) q =
    let e = moves_between h ms (All-tail (λ (z : Move). IsBetween (vertex_weights h z.vertex) (vertex_weights h z.vertex) z.booked) m ms q) in
    let f = All-head (λ (z : Move). IsBetween (vertex_weights h z.vertex) (vertex_weights h z.vertex) z.booked) m ms q in
    let low = e.low in
    let high = e.high in
    let low' = f.low in
    let high' = f.high in
    record { low = omega (arith, ints); high = omega (arith, ints) }

stage_between : (h : Hyper) (stage : Stage) → IsBookedWithin h stage → IsBetween (total (vertex_weights h) (stage_vertices stage))
    (total (vertex_weights h) (stage_vertices stage)) (booked_at stage)
stage_between h Idle q = record { low = omega (arith, ints); high = omega (arith, ints) }
stage_between h (Refused v to seen) q = record { low = omega (arith, ints); high = omega (arith, ints) }
stage_between h (Granted v from to seen) q = record { low = omega (arith, ints); high = omega (arith, ints) }
stage_between h (Moving v from to number named raised lowered Nothing booked) q =
    let x = total-take-le (λ e. (net_of h e).weight) (nets_of h v) raised in
    let y = total-take-le (λ e. (net_of h e).weight) (nets_of h v) lowered in
    let low = q.low in
    let high = q.high in
    record { low = omega (arith, ints); high = omega (arith, ints) }
stage_between h (Moving v from to number named raised lowered Up booked) q =
    let x = total-take-le (λ e. (net_of h e).weight) (nets_of h v) (raised - 1) in
    let y = total-take-le (λ e. (net_of h e).weight) (nets_of h v) lowered in
    let low = q.low in
    let high = q.high in
    record { low = omega (arith, ints); high = omega (arith, ints) }
stage_between h (Moving v from to number named raised lowered Down booked) q =
    let x = total-take-le (λ e. (net_of h e).weight) (nets_of h v) raised in
    let y = total-take-le (λ e. (net_of h e).weight) (nets_of h v) (lowered - 1) in
    let low = q.low in
    let high = q.high in
    record { low = omega (arith, ints); high = omega (arith, ints) }

-- what a pass has booked, and what it has booked on the move in hand, is far from 2^63
pub record IsGainSmall (gain : ℤ) : Type 0 where
  pub low : pos 0 ≤ℤ (gain +ℤ pos (2 ^ 58))
  pub high : gain ≤ℤ pos (2 ^ 58)

module _ (s : Setup) (r : Readings) (accounts : List Account) (limits : IsWithinLimits s.graph) (b : InBalance s r accounts) where
  carried_bound : (k : ℕ) (d : Account) → k < length accounts → total (vertex_weights s.graph) (carried (get_or accounts k d)) < 2 ^ 57
  carried_bound k d l =
      let x = total_at-le (λ a. total (vertex_weights s.graph) (carried a)) accounts k d l in
      let y = carried_sum s r accounts b.claims b.moves (vertex_weights s.graph) in
      let z = vertex_weights-sum s.graph in
      let w = limits.pin_weight in
      omega arith

  pub gain_small : (k : ℕ) (d : Account) → k < length accounts → IsGainSmall (get_or accounts k d).gain
  gain_small k d l =
      let a = get_or accounts k d in
      let x = moves_between s.graph a.moves (b.bounds.done k d l) in
      let y = stage_between s.graph a.stage (b.bounds.stages k d l) in
      let p = total-append (vertex_weights s.graph) (moved_vertices a) (stage_vertices a.stage) in
      let q = carried_bound k d l in
      let g = b.gains k d l in
      let x0 = x.low in
      let x1 = x.high in
      let y0 = y.low in
      let y1 = y.high in
      record { low = omega (arith, ints); high = omega (arith, ints) }

  pub booked_small : (k : ℕ) (d : Account) → k < length accounts → IsGainSmall (booked_at (get_or accounts k d).stage)
  booked_small k d l =
      let a = get_or accounts k d in
      let y = stage_between s.graph a.stage (b.bounds.stages k d l) in
      let p = total-append (vertex_weights s.graph) (moved_vertices a) (stage_vertices a.stage) in
      let q = carried_bound k d l in
      let y0 = y.low in
      let y1 = y.high in
      record { low = omega (arith, ints); high = omega (arith, ints) }
