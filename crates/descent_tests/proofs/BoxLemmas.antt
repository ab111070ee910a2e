use Rattle.std.proofs.Common.{◌⊎◌, inl, inr}

-- what holds of the value of the one type holds of a box over it
pub of_one : {D : Unit {0} ⊎ ⊥ → Type 0} (P : (x : Unit {0} ⊎ ⊥) → D x → Type 0) → ((v : D (inl tt)) → P (inl tt) v)
    → (x : Unit {0} ⊎ ⊥) (v : D x) → P x v
of_one P only (inl u) v = only v
of_one P only (inr e) v = absurd e
