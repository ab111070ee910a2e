-- Sets of blocks, and how many have been put into them.
use Rattle.std.proofs.Common.{◌≡◌, ℕ, ◌+◌, ◌≤◌, Bool, true, false, not, ◌||◌, if◌then◌else◌, nat_eq, List, [], ◌∷◌, ◌++◌, refl, sym, ap, ap₂, ◌∙◌, arith}
use Rattle.std.specs.Set.{is_member, distinct_count}
use Rattle.hg_base.specs.BlockSet.{has}
use Rattle.hg_base.proofs.CountLaws.{is_member_push, distinct_push}

-- the set has the blocks of a list, and the count says how many they are
pub record AreSeen (seen : List ℕ) (count index : ℕ) (blocks : List ℕ) : Type 0 where
  pub members : (b : ℕ) → has seen b ≡ is_member nat_eq blocks b
  pub counted : count ≡ distinct_count nat_eq blocks
  pub few : count ≤ index

pub seen-none : (seen : List ℕ) → ((b : ℕ) → has seen b ≡ false) → AreSeen seen 0 0 []
seen-none seen none = record { members = none; counted = refl; few = omega arith }

one-le : (t : Bool) → (if t then 1 else 0) ≤ 1
one-le true = omega arith
one-le false = omega arith

-- one more block
pub seen-more : (seen seen' : List ℕ) (count index x : ℕ) (blocks : List ℕ) → ((b : ℕ) → has seen' b ≡ (nat_eq b x || has seen b)) →
    AreSeen seen count index blocks → AreSeen seen' (count + (if not (has seen x) then 1 else 0)) (index + 1) (blocks ++ x ∷ [])
seen-more seen seen' count index x blocks joined are = record {
  members = λ b. joined b ∙ ap (λ (t : Bool). nat_eq b x || t) (are.members b) ∙ sym (is_member_push blocks x b);
  counted = ap₂ (λ (m : ℕ) (t : Bool). m + (if not t then 1 else 0)) are.counted (are.members x) ∙ sym (distinct_push blocks x);
  few = (let few = are.few in let one = one-le (not (has seen x)) in omega arith);
}
