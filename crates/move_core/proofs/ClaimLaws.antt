-- The clause on claims, after each event that changes claims or held vertices, and after all others.
use Rattle.std.proofs.Common.{◌≡◌, ℕ, ◌+◌, ◌<◌, ◌≤◌, ◌≢◌, Bool, true, false, List, length, get_or, set, nat_eq}
use Rattle.std.proofs.Common.{if◌then◌else◌, All, refl, sym, ap, ◌∙◌, subst, arith, nat_cmp}
use Rattle.std.specs.BTreeSet.{insert_key}
use Rattle.std.specs.Set.{remove_key}
use Rattle.std.proofs.lemmas.Bool.{eqb-true, eqb-false, true≢false}
use Rattle.hg_defs.specs.Hypergraph.{Hyper, vertex_count, is_free}
use Rattle.hg_defs.proofs.SumLaws.{weight_if-same, weight_if-other}
use Rattle.move_core.specs.declared.account.Account.{Account}
use Rattle.move_core.specs.State.{Readings, times, blank}
use Rattle.move_core.specs.Balance.{Claims}
use Rattle.move_core.proofs.TimesLaws.{times-insert_key, times-remove_key, All-insert_key, All-remove_key, total_changed, total_at, all_at, all_changed}

module _ (h : Hyper) (r r' : Readings) (accounts : List Account) (i : ℕ) (a a' : Account) (l : i < length accounts)
    (at : get_or accounts i (blank false) ≡ a)
    (c : Claims h r accounts) where
  pub claims_changed : ((v : ℕ) → v < vertex_count h → r'.claim v + times v a.held ≡ r.claim v + times v a'.held)
      → ((v : ℕ) → v < vertex_count h → r'.claim v ≤ 1) → ((v : ℕ) → v < vertex_count h → is_free h v ≡ false → r'.claim v ≡ 0)
      → All (λ v. v < vertex_count h) a'.held → Claims h r' (set accounts i a')
  claims_changed word once free range = record {
    word = λ v m.
        let t = total_changed accounts i a a' l at (λ z. times v z.held) in
        let w = c.word v m in
        let d = word v m in
        omega arith;
    once = once;
    free = free;
    range = all_changed accounts i a a' l at (λ z. All (λ v. v < vertex_count h) z.held) c.range range;
  }

  -- the claims and what the pass holds stay
  pub claims_kept : a'.held ≡ a.held → ((v : ℕ) → v < vertex_count h → r'.claim v ≡ r.claim v) → Claims h r' (set accounts i a')
  claims_kept e same =
      claims_changed
      (λ v m. let s = same v m in let t = ap (times v) e in omega arith)
      (λ v m. let s = same v m in let o = c.once v m in omega arith)
      (λ v m f. let s = same v m in let o = c.free v m f in omega arith)
      (subst (All (λ v. v < vertex_count h)) (sym e) (all_at accounts i a a' l at (λ z. All (λ v. v < vertex_count h) z.held) c.range))

  -- Claim of a vertex that nobody has
  pub claims_claimed : (v : ℕ) → v < vertex_count h → is_free h v ≡ true → r.claim v ≡ 0
      → ((u : ℕ) → u < vertex_count h → r'.claim u ≡ (if nat_eq v u then 1 else r.claim u)) → a'.held ≡ insert_key nat_cmp a.held v
      → Claims h r' (set accounts i a')
  claims_claimed v m f z w e =
      claims_changed
      (λ u k. subst (λ xs. r'.claim u + times u a.held ≡ r.claim u + times u xs) (sym e) (here u k))
      (λ u k. let o = c.once u k in small u (w u k) o (nat_eq v u))
      (λ u k g. by_free u k g (nat_eq v u) refl)
      (subst (All (λ u. u < vertex_count h)) (sym e) (All-insert_key (λ u. u < vertex_count h) a.held v
      (all_at accounts i a a' l at (λ y. All (λ u. u < vertex_count h) y.held) c.range) m))
    where
      none : times v a.held ≡ 0
      none = let t = total_at accounts i a a' l at (λ y. times v y.held) in let x = c.word v m in omega arith

      here : (u : ℕ) → u < vertex_count h → r'.claim u + times u a.held ≡ r.claim u + times u (insert_key nat_cmp a.held v)
      here u k = by (nat_eq v u) refl
        where
          by : (b : Bool) → nat_eq v u ≡ b → r'.claim u + times u a.held ≡ r.claim u + times u (insert_key nat_cmp a.held v)
          by true q =
              let s = eqb-true v u q in
              let x = w u k ∙ ap (λ t. if t then 1 else r.claim u) q in
              let y = times-insert_key a.held v u none in
              let j = weight_if-same v u 1 s in
              let z' : r.claim u ≡ 0 = subst (λ y. r.claim y ≡ 0) s z in
              omega arith
          by false q =
              let x = w u k ∙ ap (λ t. if t then 1 else r.claim u) q in
              let y = times-insert_key a.held v u none in
              let j = weight_if-other v u 1 (eqb-false v u q) in
              omega arith

      small : (u : ℕ) → r'.claim u ≡ (if nat_eq v u then 1 else r.claim u) → r.claim u ≤ 1 → (b : Bool) → r'.claim u ≤ 1
      small u q o b = subst (λ y. y ≤ 1) (sym q) (by (nat_eq v u))
        where
          by : (t : Bool) → (if t then 1 else r.claim u) ≤ 1
          by true = omega arith
          by false = o

      by_free : (u : ℕ) → u < vertex_count h → is_free h u ≡ false → (b : Bool) → nat_eq v u ≡ b → r'.claim u ≡ 0
      by_free u k g true q = absurd (true≢false (sym f ∙ ap (is_free h) (eqb-true v u q) ∙ g))
      by_free u k g false q = w u k ∙ ap (λ t. if t then 1 else r.claim u) q ∙ c.free u k g

  -- Claim of a vertex that a pass has
  pub claims_refused : (v : ℕ) → v < vertex_count h → r.claim v ≢ 0 → ((u : ℕ) → u < vertex_count h → r'.claim u ≡ (if nat_eq v u then 1 else r.claim u))
      → a'.held ≡ a.held → Claims h r' (set accounts i a')
  claims_refused v m z w e = claims_kept e (λ u k. by u k (nat_eq v u) refl)
    where
      by : (u : ℕ) → u < vertex_count h → (b : Bool) → nat_eq v u ≡ b → r'.claim u ≡ r.claim u
      by u k true q =
          let x = w u k ∙ ap (λ t. if t then 1 else r.claim u) q in
          let o = c.once v m in
          let one : r.claim v ≡ 1 = omega arith in
          x ∙ sym (subst (λ y. r.claim y ≡ 1) (eqb-true v u q) one)
      by u k false q = w u k ∙ ap (λ t. if t then 1 else r.claim u) q

  -- Unclaim
  pub claims_unclaimed : (v : ℕ) → v < vertex_count h → 0 < times v a.held
      → ((u : ℕ) → u < vertex_count h → r'.claim u ≡ (if nat_eq v u then 0 else r.claim u)) → a'.held ≡ remove_key (nat_eq v) a.held
      → Claims h r' (set accounts i a')
  claims_unclaimed v m p w e =
      claims_changed
      (λ u k. subst (λ xs. r'.claim u + times u a.held ≡ r.claim u + times u xs) (sym e) (here u k (nat_eq v u) refl))
      (λ u k. let o = c.once u k in subst (λ y. y ≤ 1) (sym (w u k)) (small u o (nat_eq v u)))
      (λ u k g. w u k ∙ zero_at u (c.free u k g) (nat_eq v u))
      (subst (All (λ u. u < vertex_count h)) (sym e) (All-remove_key (λ u. u < vertex_count h) a.held v
      (all_at accounts i a a' l at (λ y. All (λ u. u < vertex_count h) y.held) c.range)))
    where
      here : (u : ℕ) → u < vertex_count h → (b : Bool) → nat_eq v u ≡ b → r'.claim u + times u a.held ≡ r.claim u + times u (remove_key (nat_eq v) a.held)
      here u k true q =
          let s = eqb-true v u q in
          let x = w u k ∙ ap (λ t. if t then 0 else r.claim u) q in
          let y = times-remove_key a.held v u p in
          let j = weight_if-same v u 1 s in
          let t = total_at accounts i a a' l at (λ y. times u y.held) in
          let z = c.word u k in
          let o = c.once u k in
          omega arith
      here u k false q =
          let x = w u k ∙ ap (λ t. if t then 0 else r.claim u) q in
          let y = times-remove_key a.held v u p in
          let j = weight_if-other v u 1 (eqb-false v u q) in
          omega arith

      small : (u : ℕ) → r.claim u ≤ 1 → (t : Bool) → (if t then 0 else r.claim u) ≤ 1
      small u o true = omega arith
      small u o false = o

      zero_at : (u : ℕ) → r.claim u ≡ 0 → (t : Bool) → (if t then 0 else r.claim u) ≡ 0
      zero_at u z true = refl
      zero_at u z false = z
