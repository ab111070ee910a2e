-- The turns of two pairs without a block in common may be swapped.
use Rattle.std.proofs.Common.{◌≡◌, ◌≢◌, ◌⊎◌, inl, inr, ℕ, List, [], ◌∷◌, All, Option, Some, None, refl, sym, ap, ◌∙◌, arith}
use Rattle.std.proofs.Common.{slice_set}
use Rattle.std.proofs.lemmas.List.Elements.{All-head, All-tail, All-weaker}
use Rattle.hg_defs.specs.declared.moves.Move.{Move}
use Rattle.hg_defs.specs.Hypergraph.{Hyper, IsHypergraph}
use Rattle.hg_defs.specs.Partition.{IsPartition, Fits, block_of}
use Rattle.round_log.specs.Rounds.{changes, touching, IsAssignment}
use Rattle.flow_pair.specs.declared.solve.PairEnd.{PairEnd}
use Rattle.flow_pair.specs.PairEnds.{reassigned, IsPairEnd}
use Rattle.flow_pair.proofs.EndLaws.{end_pair}
use Rattle.flow_pair.proofs.ReassignLaws.{reassigned-first}
use Rattle.flow_round.specs.PairTurns.{IsBooked, IsTurn, IsPairBelow, after_turn, AreDisjoint}
use Rattle.flow_round.proofs.KeptLaws.{end_partition, touching_kept, moves_kept, end_kept}

-- ---- assignments of different vertices commute

pub reassigned-swap : (p vs bs us cs : List ℕ) → All (λ v. All (λ u. u ≢ v) us) vs
    → reassigned (reassigned p vs bs) us cs ≡ reassigned (reassigned p us cs) vs bs
reassigned-swap p [] bs us cs apart = refl
reassigned-swap p (v ∷ vs) [] us cs apart = refl
reassigned-swap p (v ∷ vs) (b ∷ bs) us cs apart =
    reassigned-first (reassigned p vs bs) v b us cs (All-head (λ w. All (λ u. u ≢ w) us) v vs apart)
    ∙ ap (λ r. slice_set r v b) (reassigned-swap p vs bs us cs (All-tail (λ w. All (λ u. u ≢ w) us) v vs apart))

module _ (h : Hyper) (k l : ℕ) (sound : IsHypergraph h) where
  pub turn_partition : (p : List ℕ) (x : ℕ × ℕ) (e : Option PairEnd) → IsPairBelow k x → IsPartition h k p → IsTurn h k l p x e
      → IsPartition h k (after_turn p e)
  turn_partition p x None w parted t = parted
  turn_partition p x (Some end) w parted t =
      end_partition h k l p x.0 x.1 end t.1 (let a = w.order in let b = w.below in omega arith) w.below parted

  pub turn_fits : (p : List ℕ) (x : ℕ × ℕ) (e : Option PairEnd) → Fits h k l p → IsTurn h k l p x e → Fits h k l (after_turn p e)
  turn_fits p x None fits t = fits
  turn_fits p x (Some end) fits t = t.1.fits

  -- the turn of a pair stays one after that of another pair
  pub turn_kept : (p : List ℕ) (x y : ℕ × ℕ) (ex ey : Option PairEnd) → IsPairBelow k x → IsPairBelow k y → AreDisjoint x y → IsPartition h k p
      → Fits h k l p → IsTurn h k l p x ex → IsTurn h k l p y ey → IsTurn h k l (after_turn p ex) y ey
  turn_kept p x y None ey wx wy dis parted fits s t = t
  turn_kept p x y (Some end) None wx wy dis parted fits s t =
      touching_kept h k l p x.0 x.1 y.0 y.1 end.region (reassigned p end.region end.blocks) sound parted
      (turn_partition p x (Some end) wx parted s) s.1.fits (let a = wx.order in let b = wx.below in omega arith) wx.below
      (let a = wy.order in let b = wy.below in omega arith) wy.below (λ e. dis.first_first (sym e)) (λ e. dis.second_first (sym e))
      (λ e. dis.first_second (sym e)) (λ e. dis.second_second (sym e)) (λ e. absurd (let a = wy.order in omega arith))
      (end_pair h k l p x.0 x.1 end s.1) s.1.assigned ∙ t
  turn_kept p x y (Some end) (Some other) wx wy dis parted fits s t =
      let kept = touching_kept h k l p x.0 x.1 y.0 y.1 end.region (reassigned p end.region end.blocks) sound parted
      (turn_partition p x (Some end) wx parted s) s.1.fits (let a = wx.order in let b = wx.below in omega arith) wx.below
      (let a = wy.order in let b = wy.below in omega arith) wy.below (λ e. dis.first_first (sym e)) (λ e. dis.second_first (sym e))
      (λ e. dis.first_second (sym e)) (λ e. dis.second_second (sym e)) (λ e. absurd (let a = wy.order in omega arith))
      (end_pair h k l p x.0 x.1 end s.1) s.1.assigned in (
        λ e. t.0 (sym kept ∙ e),
        end_kept h k l p x.0 x.1 y.0 y.1 end.region (reassigned p end.region end.blocks) sound parted
            (turn_partition p x (Some end) wx parted s) s.1.fits (let a = wx.order in let b = wx.below in omega arith) wx.below
            (let a = wy.order in let b = wy.below in omega arith) wy.below (λ e. dis.first_first (sym e)) (λ e. dis.second_first (sym e))
            (λ e. dis.first_second (sym e)) (λ e. dis.second_second (sym e)) (λ e. absurd (let a = wy.order in omega arith))
            (end_pair h k l p x.0 x.1 end s.1) s.1.assigned other t.1,
      )

  -- and it was one before it
  pub turn_before : (p : List ℕ) (x y : ℕ × ℕ) (ex ey : Option PairEnd) → IsPairBelow k x → IsPairBelow k y → AreDisjoint x y → IsPartition h k p
      → Fits h k l p → IsTurn h k l p x ex → IsTurn h k l (after_turn p ex) y ey → IsTurn h k l p y ey
  turn_before p x y None ey wx wy dis parted fits s t = t
  turn_before p x y (Some end) None wx wy dis parted fits s t =
      touching_kept h k l (reassigned p end.region end.blocks) x.0 x.1 y.0 y.1 end.region p sound
      (turn_partition p x (Some end) wx parted s) parted fits (let a = wx.order in let b = wx.below in omega arith) wx.below
      (let a = wy.order in let b = wy.below in omega arith) wy.below (λ e. dis.first_first (sym e)) (λ e. dis.second_first (sym e))
      (λ e. dis.first_second (sym e)) (λ e. dis.second_second (sym e)) (λ e. absurd (let a = wy.order in omega arith))
      s.1.assigned.inside (back s.1) ∙ t
    where
      back : IsPairEnd h k l p x.0 x.1 end → IsAssignment (reassigned p end.region end.blocks) x.0 x.1 end.region p
      back e = record {
        vertices = sym e.assigned.vertices;
        inside = end_pair h k l p x.0 x.1 end e;
        outside = λ v n. sym (e.assigned.outside v n);
      }
  turn_before p x y (Some end) (Some other) wx wy dis parted fits s t = (λ e. t.0 (sym kept ∙ e), before)
    where
      back : IsAssignment (reassigned p end.region end.blocks) x.0 x.1 end.region p
      back = record {
        vertices = sym s.1.assigned.vertices;
        inside = end_pair h k l p x.0 x.1 end s.1;
        outside = λ v n. sym (s.1.assigned.outside v n);
      }

      kept : touching h p y.0 y.1 ≡ touching h (reassigned p end.region end.blocks) y.0 y.1
      kept = touching_kept h k l (reassigned p end.region end.blocks) x.0 x.1 y.0 y.1 end.region p sound
          (turn_partition p x (Some end) wx parted s) parted fits (let a = wx.order in let b = wx.below in omega arith) wx.below
          (let a = wy.order in let b = wy.below in omega arith) wy.below (λ e. dis.first_first (sym e)) (λ e. dis.second_first (sym e))
          (λ e. dis.first_second (sym e)) (λ e. dis.second_second (sym e)) (λ e. absurd (let a = wy.order in omega arith))
          s.1.assigned.inside back

      before : IsPairEnd h k l p y.0 y.1 other
      before = end_kept h k l (reassigned p end.region end.blocks) x.0 x.1 y.0 y.1 end.region p sound
          (turn_partition p x (Some end) wx parted s) parted fits (let a = wx.order in let b = wx.below in omega arith) wx.below
          (let a = wy.order in let b = wy.below in omega arith) wy.below (λ e. dis.first_first (sym e)) (λ e. dis.second_first (sym e))
          (λ e. dis.first_second (sym e)) (λ e. dis.second_second (sym e)) (λ e. absurd (let a = wy.order in omega arith))
          s.1.assigned.inside back other t.1

  -- its moves are the same before and afterwards
  moves_apart : (p : List ℕ) (x y : ℕ × ℕ) (end other : PairEnd) → IsPairBelow k x → IsPairBelow k y → AreDisjoint x y → IsPartition h k p
      → IsTurn h k l p x (Some end) → IsTurn h k l p y (Some other)
      → changes h (reassigned p end.region end.blocks) (reassigned (reassigned p end.region end.blocks) other.region other.blocks) other.region
      ≡ changes h p (reassigned p other.region other.blocks) other.region
  moves_apart p x y end other wx wy dis parted s t =
      moves_kept h k l p x.0 x.1 y.0 y.1 end.region (reassigned p end.region end.blocks) sound parted
      (turn_partition p x (Some end) wx parted s) s.1.fits (let a = wx.order in let b = wx.below in omega arith) wx.below
      (let a = wy.order in let b = wy.below in omega arith) wy.below (λ e. dis.first_first (sym e)) (λ e. dis.second_first (sym e))
      (λ e. dis.first_second (sym e)) (λ e. dis.second_second (sym e)) (λ e. absurd (let a = wy.order in omega arith))
      (end_pair h k l p x.0 x.1 end s.1) s.1.assigned other t.1

  pub booked_kept : (p : List ℕ) (x y : ℕ × ℕ) (ex ey : Option PairEnd) (moves : List Move) → IsPairBelow k x → IsPairBelow k y → AreDisjoint x y
      → IsPartition h k p → IsTurn h k l p x ex → IsTurn h k l p y ey → IsBooked h p ey moves → IsBooked h (after_turn p ex) ey moves
  booked_kept p x y None ey moves wx wy dis parted s t m = m
  booked_kept p x y (Some end) None moves wx wy dis parted s t m = tt
  booked_kept p x y (Some end) (Some other) moves wx wy dis parted s t m = m ∙ sym (moves_apart p x y end other wx wy dis parted s t)

  pub booked_before : (p : List ℕ) (x y : ℕ × ℕ) (ex ey : Option PairEnd) (moves : List Move) → IsPairBelow k x → IsPairBelow k y → AreDisjoint x y
      → IsPartition h k p → IsTurn h k l p x ex → IsTurn h k l p y ey → IsBooked h (after_turn p ex) ey moves → IsBooked h p ey moves
  booked_before p x y None ey moves wx wy dis parted s t m = m
  booked_before p x y (Some end) None moves wx wy dis parted s t m = tt
  booked_before p x y (Some end) (Some other) moves wx wy dis parted s t m = m ∙ moves_apart p x y end other wx wy dis parted s t

  -- both orders lead to the same partition
  pub turns_commute : (p : List ℕ) (x y : ℕ × ℕ) (ex ey : Option PairEnd) → AreDisjoint x y → IsTurn h k l p x ex → IsTurn h k l p y ey
      → after_turn (after_turn p ex) ey ≡ after_turn (after_turn p ey) ex
  turns_commute p x y None None dis s t = refl
  turns_commute p x y None (Some other) dis s t = refl
  turns_commute p x y (Some end) None dis s t = refl
  turns_commute p x y (Some end) (Some other) dis s t =
      reassigned-swap p end.region end.blocks other.region other.blocks
      (All-weaker (λ v. (block_of p v ≡ x.0) ⊎ (block_of p v ≡ x.1)) (λ v. All (λ u. u ≢ v) other.region) apart end.region
      (end_pair h k l p x.0 x.1 end s.1))
    where
      differ : (v u : ℕ) → (block_of p v ≡ x.0) ⊎ (block_of p v ≡ x.1) → (block_of p u ≡ y.0) ⊎ (block_of p u ≡ y.1) → u ≢ v
      differ v u (inl f) (inl g) e = dis.first_first (sym f ∙ ap (block_of p) (sym e) ∙ g)
      differ v u (inl f) (inr g) e = dis.first_second (sym f ∙ ap (block_of p) (sym e) ∙ g)
      differ v u (inr f) (inl g) e = dis.second_first (sym f ∙ ap (block_of p) (sym e) ∙ g)
      differ v u (inr f) (inr g) e = dis.second_second (sym f ∙ ap (block_of p) (sym e) ∙ g)

      apart : (v : ℕ) → (block_of p v ≡ x.0) ⊎ (block_of p v ≡ x.1) → All (λ u. u ≢ v) other.region
      apart v f = All-weaker (λ u. (block_of p u ≡ y.0) ⊎ (block_of p u ≡ y.1)) (λ u. u ≢ v) (λ u g. differ v u f g) other.region
          (end_pair h k l p y.0 y.1 other t.1)
