use Rattle.std.proofs.Common.{◌⊎◌, inl, inr}

-- what holds of the value of each of three types holds of a box over any of them
pub of_three : {D : Unit {0} ⊎ (Unit {0} ⊎ (Unit {0} ⊎ ⊥)) → Type 0} (P : (x : Unit {0} ⊎ (Unit {0} ⊎ (Unit {0} ⊎ ⊥))) → D x → Type 0) →
    ((v : D (inl tt)) → P (inl tt) v) → ((v : D (inr (inl tt))) → P (inr (inl tt)) v) →
    ((v : D (inr (inr (inl tt)))) → P (inr (inr (inl tt))) v) → (x : Unit {0} ⊎ (Unit {0} ⊎ (Unit {0} ⊎ ⊥))) (v : D x) → P x v
of_three P first second third (inl u) v = first v
of_three P first second third (inr (inl u)) v = second v
of_three P first second third (inr (inr (inl u))) v = third v
of_three P first second third (inr (inr (inr e))) v = absurd e
