-- The clause on marks: after a step that writes the mark of a vertex that isn't decided, and where all marks stay.
use Rattle.std.proofs.Common.{◌≡◌, ℕ, ◌+◌, ◌<◌, inl, inr, false, List, length, get_or, set, nat_eq, if◌then◌else◌, All, refl, sym, ap, ◌∙◌, subst, arith}
use Rattle.std.proofs.lemmas.Bool.{cases_eq}
use Rattle.hg_defs.specs.Hypergraph.{Hyper, vertex_count, is_free}
use Rattle.hg_defs.proofs.SumLaws.{weight_if}
use Rattle.cluster_core.specs.declared.account.Account.{Account}
use Rattle.cluster_core.specs.State.{Readings, times, blank}
use Rattle.cluster_core.specs.Balance.{IsRoot, HasMarks}
use Rattle.cluster_core.proofs.TimesLaws.{total_changed, all_at, all_changed, pick}

-- the mark of a vertex is written
module _ (h : Hyper) (r r' : Readings) (v x : ℕ) (lv : v < vertex_count h) (w : (u : ℕ) → u < vertex_count h →
    r'.mark u ≡ (if nat_eq v u then x else r.mark u)) where
  pub mark_here : r'.mark v ≡ x
  mark_here = elim (pick v v x (r.mark v)) [ inl p ↦ w v lv ∙ p.1 | inr p ↦ absurd (p.0 refl) ]

  pub mark_there : (u : ℕ) → u < vertex_count h → (v ≡ u → ⊥) → r'.mark u ≡ r.mark u
  mark_there u lu n = elim (pick v u x (r.mark u)) [ inl p ↦ absurd (n p.0) | inr p ↦ w u lu ∙ p.1 ]

  pub mark_stays : r.mark v < 2 → (u q : ℕ) → u < vertex_count h → r.mark u ≡ q + 2 → r'.mark u ≡ q + 2
  mark_stays vacant u q lu e =
      elim (cases_eq v u) [
        | inl s ↦ let z : r.mark v ≡ q + 2 = ap r.mark s ∙ e in absurd (omega arith)
        | inr n ↦ mark_there u lu n ∙ e
      ]

  pub root_stays : r.mark v < 2 → (q : ℕ) → IsRoot h r q → IsRoot h r' q
  root_stays vacant q k = record { vertex = k.vertex; mark = mark_stays vacant q q k.vertex k.mark }

module _ (h : Hyper) (r r' : Readings) (accounts : List Account) (i : ℕ) (a a' : Account) (l : i < length accounts)
    (at : get_or accounts i (blank false) ≡ a)
    (c : HasMarks h r accounts) where
  pub marks_written : (v x : ℕ) (lv : v < vertex_count h) (w : (u : ℕ) → u < vertex_count h → r'.mark u ≡ (if nat_eq v u then x else r.mark u)) →
      r.mark v < 2 → ((q : ℕ) → x ≡ q + 2 → IsRoot h r' q) → All (IsRoot h r') a'.known →
      ((u : ℕ) → u < vertex_count h → times u a'.taken + (if nat_eq (r.mark u) 1 then 1 else 0) ≡ times u a.taken +
      (if nat_eq (r'.mark u) 1 then 1 else 0)) →
      All (λ u. u < vertex_count h) a'.taken → (is_free h v ≡ false → x ≡ 0) → HasMarks h r' (set accounts i a')
  marks_written v x lv w vacant new known count range fixed = record {
    roots = λ u q lu e.
        elim (cases_eq v u) [
          | inl s ↦ new q (sym (mark_here h r r' v x lv w) ∙ ap r'.mark s ∙ e)
          | inr n ↦ root_stays h r r' v x lv w vacant q (c.roots u q lu (sym (mark_there h r r' v x lv w u lu n) ∙ e))
        ];
    known = all_changed accounts i a a' l at (λ z. All (IsRoot h r') z.known)
        (λ k d m j e p. root_stays h r r' v x lv w vacant (get_or (get_or accounts k d).known j e) (c.known k d m j e p))
        known;
    taken = λ u lu.
        let t = total_changed accounts i a a' l at (λ z. times u z.taken) in
        let y = c.taken u lu in
        let z = count u lu in
        omega arith;
    range = all_changed accounts i a a' l at (λ z. All (λ u. u < vertex_count h) z.taken) c.range range;
    fixed = λ u lu f.
        elim (cases_eq v u) [
          | inl s ↦ sym (ap r'.mark s) ∙ mark_here h r r' v x lv w ∙ fixed (ap (is_free h) s ∙ f)
          | inr n ↦ mark_there h r r' v x lv w u lu n ∙ c.fixed u lu f
        ];
  }

  -- where no mark is written, and the pass has taken what it had
  pub marks_kept : ((u : ℕ) → u < vertex_count h → r'.mark u ≡ r.mark u) → All (IsRoot h r) a'.known → a'.taken ≡ a.taken →
      HasMarks h r' (set accounts i a')
  marks_kept same known taken = record {
    roots = λ u q lu e. root_same q (c.roots u q lu (sym (same u lu) ∙ e));
    known = all_changed accounts i a a' l at (λ z. All (IsRoot h r') z.known)
        (λ k d m j e p. root_same (get_or (get_or accounts k d).known j e) (c.known k d m j e p))
        (λ j e p. root_same (get_or a'.known j e) (known j e p));
    taken = λ u lu.
        let t = total_changed accounts i a a' l at (λ z. times u z.taken) in
        let y = c.taken u lu in
        let z = ap (times u) taken in
        let q = ap (λ m. weight_if m 1 1) (same u lu) in
        omega arith;
    range = all_changed accounts i a a' l at (λ z. All (λ u. u < vertex_count h) z.taken) c.range
        (subst (All (λ u. u < vertex_count h)) (sym taken) (all_at accounts i a a' l at (λ z. All (λ u. u < vertex_count h) z.taken) c.range));
    fixed = λ u lu f. same u lu ∙ c.fixed u lu f;
  }
    where
      root_same : (q : ℕ) → IsRoot h r q → IsRoot h r' q
      root_same q k = record { vertex = k.vertex; mark = same q k.vertex ∙ k.mark }
