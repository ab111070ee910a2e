-- The clause on loads, after each event that changes loads, and after all others.
use Rattle.std.proofs.Common.{◌≡◌, ℕ, zero, suc, ◌+◌, ◌-◌, ◌<◌, ◌≤◌, ◌⊎◌, inl, inr, false, List, [], ◌∷◌, ◌++◌}
use Rattle.std.proofs.Common.{length, get_or, set, nat_eq, if◌then◌else◌, All, ap, ◌∙◌, arith}
use Rattle.hg_defs.specs.declared.moves.Move.{Move}
use Rattle.hg_defs.specs.Sums.{total}
use Rattle.hg_defs.specs.Hypergraph.{Hyper, vertex_count, weight_of}
use Rattle.hg_defs.specs.Partition.{block_of, load}
use Rattle.hg_defs.proofs.SumLaws.{weight_if, weight_if-same, weight_if-other, total-map, total-same}
use Rattle.hg_defs.proofs.SumLaws.{total-same_each, total-add, total-append, total-le, total_push}
use Rattle.move_core.specs.declared.account.Account.{Account}
use Rattle.move_core.specs.declared.account.Stage.{Stage}
use Rattle.move_core.specs.declared.account.Stage.TheVariants.{Idle, Refused, Granted, Moving}
use Rattle.move_core.specs.State.{Setup, Readings, blank}
use Rattle.move_core.specs.Events.{moved_vertices}
use Rattle.move_core.specs.Balance.{Claims, Moves, Loads, carried, stage_vertices, reserved_weight, refused_weight, granted_weight, arrived, departed}
use Rattle.move_core.proofs.TimesLaws.{total_changed, total_at, pick}
use Rattle.move_core.proofs.HeldLaws.{carried_weight}

-- two sums of which one is the greater at each element differ by no less than they do at one element
pub total-le_at : (f g : Account → ℕ) (xs : List Account) (i : ℕ) (d : Account) → i < length xs → All (λ x. f x ≤ g x) xs
    → total f xs + g (get_or xs i d) ≤ total g xs + f (get_or xs i d)
total-le_at f g [] i d l h = absurd (omega arith)
total-le_at f g (x ∷ xs) zero d l h =
    let e = total-le f g xs (λ k q m. h (suc k) q (omega arith)) in
    omega arith
total-le_at f g (x ∷ xs) (suc i) d l h =
    let e = total-le_at f g xs i d (omega arith) (λ k q m. h (suc k) q (omega arith)) in
    let a = h 0 x (omega arith) in
    omega arith

module _ (s : Setup) (r : Readings) (accounts : List Account) (c : Claims s.graph r accounts) (m : Moves s accounts) (w : Loads s r accounts)
    (wide : vertex_count s.graph ≤ length s.opening) where
  -- the weight of what an account carries of a block at the opening
  carried_of : ℕ → Account → ℕ
  carried_of b a = total (λ v. weight_if (block_of s.opening v) b (weight_of s.graph v)) (carried a)

  departed_carried : (b k : ℕ) (d : Account) → k < length accounts → departed s.graph b (get_or accounts k d).moves
      + total (λ v. weight_if (block_of s.opening v) b (weight_of s.graph v)) (stage_vertices (get_or accounts k d).stage) ≡ carried_of b
      (get_or accounts k d)
  unfolding carried_of
  departed_carried b k d l =
      let a = get_or accounts k d in
      let g : ℕ → ℕ = λ v. weight_if (block_of s.opening v) b (weight_of s.graph v) in
      let e = total-append g (moved_vertices a) (stage_vertices a.stage) in
      let f = total-map g (λ (z : Move). z.vertex) a.moves in
      let q = total-same (λ (z : Move). weight_if z.from b (weight_of s.graph z.vertex)) (λ z. g z.vertex) a.moves
      (λ j y p. ap (λ x. weight_if x b (weight_of s.graph (get_or a.moves j y).vertex)) (m.done k d l j y p).origin) in
      omega arith

  -- the weight of a vertex on its way into a block stands in the load word, with that of moves done into it
  pub load_reserved : (i : ℕ) (a : Account) → i < length accounts → get_or accounts i (blank false) ≡ a → (b : ℕ) → b < s.blocks
      → reserved_weight s.graph b a.stage + arrived s.graph b a.moves ≤ r.load b
  unfolding carried_of
  load_reserved i a l at b k =
      let e = w.word b k in
      let t = total_at accounts i a a l at (λ z. reserved_weight s.graph b z.stage + arrived s.graph b z.moves) in
      let q = carried_weight s r accounts c m b wide in
      let p = total-le (λ z. departed s.graph b z.moves) (carried_of b) accounts (λ j d o. let x = departed_carried b j d o in omega arith) in
      omega arith

  -- and so does the weight of a vertex that has still to leave its block
  pub load_leaving : (i : ℕ) (a : Account) → i < length accounts → get_or accounts i (blank false) ≡ a → (b : ℕ) → b < s.blocks
      → total (λ v. weight_if (block_of s.opening v) b (weight_of s.graph v)) (stage_vertices a.stage) ≤ r.load b
  unfolding carried_of
  load_leaving i a l at b k =
      let g : ℕ → ℕ = λ v. weight_if (block_of s.opening v) b (weight_of s.graph v) in
      let e = w.word b k in
      let q = carried_weight s r accounts c m b wide in
      let p = total-le_at (λ z. departed s.graph b z.moves) (carried_of b) accounts i (blank false) l
      (λ j d o. let x = departed_carried b j d o in omega arith) in
      let x = departed_carried b i (blank false) l in
      let y : total g (stage_vertices (get_or accounts i (blank false)).stage) ≡ total g (stage_vertices a.stage) =
      ap (λ (z : Account). total g (stage_vertices z.stage)) at in
      omega arith

-- what was granted, without what was refused
granted_part : (h : Hyper) (b : ℕ) (stage : Stage) → reserved_weight h b stage ≡ granted_weight h b stage + refused_weight h b stage
granted_part h b Idle = omega arith
granted_part h b (Refused v to seen) = omega arith
granted_part h b (Granted v from to seen) = omega arith
granted_part h b (Moving v from to number named raised lowered owed booked) = omega arith

pub granted_within : (s : Setup) (r : Readings) (accounts : List Account) → Loads s r accounts → (b : ℕ) → b < s.blocks
    → load s.graph s.opening b + total (λ a. granted_weight s.graph b a.stage + arrived s.graph b a.moves) accounts ≤ s.limit
    + total (λ a. departed s.graph b a.moves) accounts
granted_within s r accounts w b l =
    let word = w.word b l in
    let limit = w.limit b l in
    let x = total-same_each (λ (a : Account). reserved_weight s.graph b a.stage + arrived s.graph b a.moves)
    (λ a. (granted_weight s.graph b a.stage + arrived s.graph b a.moves) + refused_weight s.graph b a.stage)
    (λ a. let p = granted_part s.graph b a.stage in omega arith) accounts in
    let y = total-add (λ (a : Account). granted_weight s.graph b a.stage + arrived s.graph b a.moves) (λ a. refused_weight s.graph b a.stage) accounts in
    omega arith

module _ (s : Setup) (r r' : Readings) (accounts : List Account) (i : ℕ) (a a' : Account) (l : i < length accounts)
    (at : get_or accounts i (blank false) ≡ a)
    (w : Loads s r accounts) where
  pub loads_changed : ((b : ℕ) → b < s.blocks → (r'.load b + departed s.graph b a'.moves) + (reserved_weight s.graph b a.stage + arrived s.graph b a.moves)
      ≡ (r.load b + departed s.graph b a.moves) + (reserved_weight s.graph b a'.stage + arrived s.graph b a'.moves))
      → ((b : ℕ) → b < s.blocks → (r'.load b + refused_weight s.graph b a.stage ≤ r.load b + refused_weight s.graph b a'.stage) ⊎ (r'.load b ≤ s.limit))
      → Loads s r' (set accounts i a')
  loads_changed word limit = record {
    word = λ b k.
        let d = total_changed accounts i a a' l at (λ z. departed s.graph b z.moves) in
        let g = total_changed accounts i a a' l at (λ z. reserved_weight s.graph b z.stage + arrived s.graph b z.moves) in
        let e = w.word b k in
        let f = word b k in
        omega arith;
    limit = λ b k.
        let d = total_changed accounts i a a' l at (λ z. refused_weight s.graph b z.stage) in
        let e = w.limit b k in
        elim (limit b k) [ inl f ↦ omega arith | inr f ↦ omega arith ];
  }

  -- the loads stay, and the weights at the stage too
  pub loads_kept : a'.moves ≡ a.moves → ((b : ℕ) → b < s.blocks → reserved_weight s.graph b a'.stage ≡ reserved_weight s.graph b a.stage)
      → ((b : ℕ) → b < s.blocks → refused_weight s.graph b a'.stage ≡ refused_weight s.graph b a.stage) → ((b : ℕ) → b < s.blocks → r'.load b ≡ r.load b)
      → Loads s r' (set accounts i a')
  loads_kept e p q same =
      loads_changed
      (λ b k.
      let x = same b k in
      let y = p b k in
      let d = ap (departed s.graph b) e in
      let f = ap (arrived s.graph b) e in
      omega arith)
      (λ b k. let x = same b k in let y = q b k in inl (omega arith))

  -- Reserve: a weight comes into a block, granted within the limit or refused
  pub loads_added : (to x : ℕ) → a'.moves ≡ a.moves → ((b : ℕ) → b < s.blocks
      → reserved_weight s.graph b a'.stage ≡ reserved_weight s.graph b a.stage + weight_if to b x)
      → ((b : ℕ) → b < s.blocks → r'.load b ≡ (if nat_eq to b then r.load to + x else r.load b))
      → ((r.load to + x ≤ s.limit) × ((b : ℕ) → b < s.blocks → refused_weight s.graph b a'.stage ≡ refused_weight s.graph b a.stage)) ⊎
      ((b : ℕ) → b < s.blocks → refused_weight s.graph b a'.stage ≡ refused_weight s.graph b a.stage + weight_if to b x) → Loads s r' (set accounts i a')
  loads_added to x e p f q =
      loads_changed
      (λ b k.
      let y = p b k in
      let d = ap (departed s.graph b) e in
      let g = ap (arrived s.graph b) e in
      let z = f b k in
      elim (pick to b (r.load to + x) (r.load b)) [
        | inl n ↦ let j = weight_if-same to b x n.0 in let o = ap r.load n.0 in let y1 = n.1 in omega arith
        | inr n ↦ let j = weight_if-other to b x n.0 in let y1 = n.1 in omega arith
      ])
      (λ b k.
      let z = f b k in
      elim (pick to b (r.load to + x) (r.load b)) [
        | inl n ↦
            let j = weight_if-same to b x n.0 in
            let o = ap r.load n.0 in
            let y1 = n.1 in
            elim q [ inl u ↦ let u0 = u.0 in inr (omega arith) | inr u ↦ let u1 = u b k in inl (omega arith) ]
        | inr n ↦
            let j = weight_if-other to b x n.0 in
            let y1 = n.1 in
            elim q [ inl u ↦ let u1 = u.1 b k in inl (omega arith) | inr u ↦ let u1 = u b k in inl (omega arith) ]
      ])

  -- TakeBack: a weight that stood at a stage leaves its block
  pub loads_taken : (to x : ℕ) → x ≤ r.load to → a'.moves ≡ a.moves → ((b : ℕ) → b < s.blocks
      → reserved_weight s.graph b a.stage ≡ reserved_weight s.graph b a'.stage + weight_if to b x)
      → ((b : ℕ) → b < s.blocks → r'.load b ≡ (if nat_eq to b then r.load to - x else r.load b))
      → ((b : ℕ) → b < s.blocks → refused_weight s.graph b a.stage ≤ refused_weight s.graph b a'.stage + weight_if to b x) → Loads s r' (set accounts i a')
  loads_taken to x w0 e p f q =
      loads_changed
      (λ b k.
      let y = p b k in
      let d = ap (departed s.graph b) e in
      let g = ap (arrived s.graph b) e in
      let z = f b k in
      elim (pick to b (r.load to - x) (r.load b)) [
        | inl n ↦ let j = weight_if-same to b x n.0 in let o = ap r.load n.0 in let y1 = n.1 in omega arith
        | inr n ↦ let j = weight_if-other to b x n.0 in let y1 = n.1 in omega arith
      ])
      (λ b k.
      let z = f b k in
      let u = q b k in
      elim (pick to b (r.load to - x) (r.load b)) [
        | inl n ↦ let j = weight_if-same to b x n.0 in let o = ap r.load n.0 in let y1 = n.1 in inl (omega arith)
        | inr n ↦ let j = weight_if-other to b x n.0 in let y1 = n.1 in inl (omega arith)
      ])

  -- GiveBack: the move is done, and its weight leaves the old block
  pub loads_given : (z : Move) → weight_of s.graph z.vertex ≤ r.load z.from → a'.moves ≡ a.moves ++ z ∷ []
      → ((b : ℕ) → b < s.blocks → reserved_weight s.graph b a.stage ≡ weight_if z.to b (weight_of s.graph z.vertex))
      → ((b : ℕ) → b < s.blocks → reserved_weight s.graph b a'.stage ≡ 0)
      → ((b : ℕ) → b < s.blocks → refused_weight s.graph b a'.stage ≡ refused_weight s.graph b a.stage)
      → ((b : ℕ) → b < s.blocks → r'.load b ≡ (if nat_eq z.from b then r.load z.from - weight_of s.graph z.vertex else r.load b))
      → Loads s r' (set accounts i a')
  loads_given z w0 e p p' q f =
      let x = weight_of s.graph z.vertex in
      loads_changed
      (λ b k.
      let y = p b k in
      let y' = p' b k in
      let d = ap (departed s.graph b) e ∙ total_push (λ (m : Move). if nat_eq m.from b then weight_of s.graph m.vertex else 0) a.moves z in
      let g = ap (arrived s.graph b) e ∙ total_push (λ (m : Move). if nat_eq m.to b then weight_of s.graph m.vertex else 0) a.moves z in
      let v = f b k in
      elim (pick z.from b (r.load z.from - x) (r.load b)) [
        | inl n ↦ let j = weight_if-same z.from b x n.0 in let o = ap r.load n.0 in let y1 = n.1 in omega arith
        | inr n ↦ let j = weight_if-other z.from b x n.0 in let y1 = n.1 in omega arith
      ])
      (λ b k.
      let v = f b k in
      let u = q b k in
      elim (pick z.from b (r.load z.from - x) (r.load b)) [
        | inl n ↦ let o = ap r.load n.0 in let y1 = n.1 in inl (omega arith)
        | inr n ↦ let y1 = n.1 in inl (omega arith)
      ])
