-- The runs of a list are its first run and those of the rest.
use Rattle.std.proofs.Common.{◌≡◌, ℕ, zero, suc, ◌+◌, ◌-◌, ◌*◌, ◌/◌, ◌%◌, ◌^◌, ◌<◌, ◌≤◌, List, [], ◌∷◌, ◌++◌, length, take, drop, set, get_or}
use Rattle.std.proofs.Common.{refl, sym, ap, ◌∙◌, subst, arith, length-append, min}
use Rattle.std.proofs.lemmas.List.{take_all, drop-drop, drop_at, length-drop, length-take, get_or-take, get_or-drop, take_at}
use Rattle.std.proofs.lemmas.Grind.{div_ceil_times}
use Rattle.std.proofs.Math.Nat.{div-add-mod, mod-lt, mul_comm, mul-mod_left, add-mul, zero-mul}
use denote.Ref.{MutBor}
use denote.Param.Members.{Shared}
use Rattle.std.specs.Fork.{slice_chunk, IsChunk, AcceptsAt, ChangesAt, AcceptsChunksMut, AllInChunks, IsInChunk}
use Rattle.crew.specs.Chunks.{AllRuns, AllRunsChange}

one_more : (n size : ℕ) → suc n * size ≡ size + n * size
one_more n size = let a = add-mul 1 n size in omega arith

none_before : (size : ℕ) → 0 * size ≡ 0
none_before size = zero-mul size

-- a list that is no longer than a run is one
only_run : {X : Type 0} (size : ℕ) (xs : List X) → length xs ≤ size → slice_chunk xs size 0 ≡ xs
only_run size xs l = ap (λ k. take size (drop k xs)) (none_before size) ∙ take_all size xs l

first_run : {X : Type 0} (size : ℕ) (xs ys zs : List X) → zs ≡ xs ++ ys → length xs ≡ size → slice_chunk zs size 0 ≡ xs
first_run size xs ys zs e n = ap (λ k. take size (drop k zs)) (none_before size) ∙ ap (take size) e ∙ take_at xs ys size n

next_run : {X : Type 0} (size n : ℕ) (xs ys zs : List X) → zs ≡ xs ++ ys → length xs ≡ size → slice_chunk zs size (suc n) ≡ slice_chunk ys size n
next_run size n xs ys zs e m =
    ap (λ ts. take size (drop (suc n * size) ts)) e
    ∙ ap (λ k. take size (drop k (xs ++ ys))) (one_more n size)
    ∙ ap (take size) (sym (drop-drop (n * size) size (xs ++ ys)) ∙ ap (drop (n * size)) (drop_at xs ys size m))

-- a run that begins within a list that is no longer than a run is the first one
is_first : (n size len : ℕ) → n * size < len → len ≤ size → n ≡ 0
is_first zero size len l r = refl
is_first (suc n) size len l r = let a = one_more n size in absurd (omega arith)

module _ {X : Type 0} (P : ℕ → List X → Type 0) (place size : ℕ) where
  pub accepts_only : (xs : List X) → AllRuns P place size 1 xs → P place xs
  accepts_only xs h =
      let w : length xs ≤ size = omega (arith, h.within) in
      subst (λ k. P k xs) (at_place (none_before size)) (subst (P (place + 0 * size)) (only_run size xs w) (h.each 0 (before (none_before size))))
    where
      at_place : 0 * size ≡ 0 → place + 0 * size ≡ place
      at_place z = omega arith

      before : 0 * size ≡ 0 → 0 * size < length xs
      before z = let f = h.filled in omega arith

  module _ (count : ℕ) (xs ys zs : List X) (e : zs ≡ xs ++ ys) (n : length xs ≡ size) (h : AllRuns P place size count zs) (more : 1 < count) where
    long : length zs ≡ length xs + length ys
    long = ap length e ∙ length-append xs ys

    counted : count * size ≡ size + (count - 1) * size
    counted = ap (λ k. k * size) (down more) ∙ one_more (count - 1) size
      where
        down : 1 < count → count ≡ suc (count - 1)
        down l = omega arith

    pub accepts_first : AllRuns P place size 1 xs
    accepts_first =
        let b = long in
        record {
          some = (omega arith, h.some.1);
          within = omega arith;
          filled = let s = h.some.1 in omega arith;
          room = let r = h.room in omega arith;
          each = λ i l. at i (is_first i size (length xs) l (omega arith));
        }
      where
        inside : 0 * size ≡ 0 → 0 * size < length zs
        inside z = let b = long in let s = h.some.1 in omega arith

        at : (i : ℕ) → i ≡ 0 → P (place + i * size) (slice_chunk xs size i)
        at i z =
            subst (λ k. P (place + k * size) (slice_chunk xs size k)) (sym z)
            (subst (P (place + 0 * size)) (first_run size xs ys zs e n ∙ sym (only_run size xs (omega arith))) (h.each 0 (inside (none_before size))))

    pub accepts_others : AllRuns P (place + size) size (count - 1) ys
    accepts_others =
        let b = long in
        let c = counted in
        record {
          some = (omega arith, h.some.1);
          within = let w = h.within in omega arith;
          filled = let f = h.filled in omega arith;
          room = let r = h.room in omega arith;
          each = λ i l. subst (λ k. P k (slice_chunk ys size i)) (shift i (one_more i size))
              (subst (P (place + suc i * size)) (next_run size i xs ys zs e n) (h.each (suc i) (inside i (one_more i size) l)));
        }
      where
        shift : (i : ℕ) → suc i * size ≡ size + i * size → place + suc i * size ≡ place + size + i * size
        shift i a = omega arith

        inside : (i : ℕ) → suc i * size ≡ size + i * size → i * size < length ys → suc i * size < length zs
        inside i a l = let b = long in omega arith

module _ {X : Type 0} (R : ℕ → List X → List X → Type 0) (place size : ℕ) where
  pub changes_only : (xs ys : List X) → length xs ≤ size → length ys ≡ length xs → R place xs ys → AllRunsChange R place size xs ys
  changes_only xs ys l n h =
      record {
        all = n;
        each = λ i u. subst (λ k. R (place + k * size) (slice_chunk xs size k) (slice_chunk ys size k)) (sym (is_first i size (length xs) u l))
            (subst (λ k. R k (slice_chunk xs size 0) (slice_chunk ys size 0)) (at_place (none_before size))
            (subst (λ us. R place us (slice_chunk ys size 0)) (sym (only_run size xs l)) (subst (R place xs) (sym (only_run size ys (omega arith))) h)));
      }
    where
      at_place : 0 * size ≡ 0 → place ≡ place + 0 * size
      at_place z = omega arith

  pub changes_both : (xs ys zs us vs : List X) → zs ≡ xs ++ ys → length xs ≡ size → 0 < size → AllRunsChange R place size xs us →
      AllRunsChange R (place + size) size ys vs → AllRunsChange R place size zs (us ++ vs)
  changes_both xs ys zs us vs e n some h k =
      let a = ap length e ∙ length-append xs ys in
      let b = length-append us vs in
      let c = h.all in
      let d = k.all in
      record { all = omega arith; each = at }
    where
      long : length zs ≡ length xs + length ys
      long = ap length e ∙ length-append xs ys

      wide : length us ≡ size
      wide = h.all ∙ n

      inside : 0 * size ≡ 0 → 0 * size < length xs
      inside z = omega arith

      shift : (i : ℕ) → suc i * size ≡ size + i * size → place + size + i * size ≡ place + suc i * size
      shift i a = omega arith

      behind : (i : ℕ) → suc i * size ≡ size + i * size → suc i * size < length zs → i * size < length ys
      behind i a l = let b = long in omega arith

      at : (i : ℕ) → i * size < length zs → R (place + i * size) (slice_chunk zs size i) (slice_chunk (us ++ vs) size i)
      at zero l =
          subst (λ ts. R (place + 0 * size) ts (slice_chunk (us ++ vs) size 0)) (only_run size xs (omega arith) ∙ sym (first_run size xs ys zs e n))
          (subst (R (place + 0 * size) (slice_chunk xs size 0)) (only_run size us (omega arith) ∙ sym (first_run size us vs (us ++ vs) refl wide))
          (h.each 0 (inside (none_before size))))
      at (suc i) l =
          subst (λ ts. R (place + suc i * size) ts (slice_chunk (us ++ vs) size (suc i))) (sym (next_run size i xs ys zs e n))
          (subst (R (place + suc i * size) (slice_chunk ys size i)) (sym (next_run size i us vs (us ++ vs) refl wide))
          (subst (λ k. R k (slice_chunk ys size i) (slice_chunk vs size i)) (shift i (one_more i size)) (k.each i (behind i (one_more i size) l))))

-- ---- whole lists

-- there is a run where there is an item
some_runs : (count size len : ℕ) → 0 < len → len ≤ count * size → 0 < count
some_runs zero size len l h = let z = none_before size in absurd (omega arith)
some_runs (suc n) size len l h = omega arith

is_run : {X : Type 0} (xs : List X) (size n : ℕ) → 0 < size → n * size < length xs → IsChunk xs size (n * size) (slice_chunk xs size n)
is_run xs size n s l =
    let a = length-take size (drop (n * size) xs) in
    let b = length-drop (n * size) xs in
    record {
      value = refl;
      start_is_multiple = mul-mod_left n size;
      len = omega arith;
      nonempty = omega arith;
      at_most_size = omega arith;
      in_bounds = omega arith;
      full_size = λ z. full z;
      elements = λ k d h. get_or-take size (drop (n * size) xs) k d (omega arith) ∙ get_or-drop (n * size) xs k d;
    }
  where
    full : length xs % size ≡ 0 → length (slice_chunk xs size n) ≡ size
    full z =
        let q = length xs / size in
        let a = div-add-mod (length xs) size in
        let b = mul_comm size q in
        let c = length-take size (drop (n * size) xs) in
        let d = length-drop (n * size) xs in
        let e = room n q size (omega arith) in
        omega arith
      where
        room : (n q size : ℕ) → n * size < q * size → n * size + size ≤ q * size
        room n zero size l = let z = none_before size in absurd (omega arith)
        room zero (suc q) size l = let z = none_before size in let a = one_more q size in omega arith
        room (suc n) (suc q) size l =
            let a = one_more n size in
            let b = one_more q size in
            let c = room n q size (omega arith) in
            omega arith

module _ {F T : Type 0} (g : Shared F (ℕ × (MutBor (List T) × Unit {0})) ((Unit {0}) × (MutBor (List T) × Unit {0}))) (f : F) (size : ℕ) where
  pub accepts_all : (count : ℕ) (xs : List T) → 0 < size → 0 < length xs → length xs < 2 ^ 64 → count ≡ length xs / size + min 1 (length xs % size) →
      AcceptsChunksMut g f size xs → AllRuns (AcceptsAt g f) 0 size count xs
  accepts_all count xs s l few is h =
      let c = div_ceil_times (length xs) size s in
      let within : length xs ≤ count * size = subst (λ n. length xs ≤ n * size) (sym is) c.0 in
      record {
        some = (some_runs count size (length xs) l within, s);
        within = within;
        filled = subst (λ n. n * size < length xs + size) (sym is) c.1;
        room = omega arith;
        each = λ n u p e. subst (λ i. g.pre f (i, (p, tt))) (behind n) (h (n * size) p (subst (IsChunk xs size (n * size)) (sym e) (is_run xs size n s u)));
      }
    where
      behind : (n : ℕ) → n * size ≡ 0 + n * size
      behind n = omega arith

  pub all_in_runs : (xs ys : List T) → 0 < size → AllRunsChange (ChangesAt g f) 0 size xs ys → AllInChunks g f size xs ys
  all_in_runs xs ys s h i d l = (refl, here)
    where
      n : ℕ
      n = i / size

      o : ℕ
      o = i % size

      low : o < size
      low = mod-lt i s

      adds : n * size + o ≡ i
      adds = let a = div-add-mod i size in let c = mul_comm size n in omega arith

      within : n * size < length xs
      within = let a = adds in omega arith

      read : (zs : List T) → get_or (slice_chunk zs size n) o d ≡ get_or zs i d
      read zs = get_or-take size (drop (n * size) zs) o d low ∙ (get_or-drop (n * size) zs o d ∙ ap (λ j. get_or zs j d) adds)

      call : ChangesAt g f (n * size) (slice_chunk xs size n) (slice_chunk ys size n)
      call = subst (λ k. ChangesAt g f k (slice_chunk xs size n) (slice_chunk ys size n)) (omega arith) (h.each n within)

      here : IsInChunk g f size xs ys i d
      here =
          let a = length-take size (drop (n * size) xs) in
          let b = length-drop (n * size) xs in
          let j = adds in
          let k = low in
          let c = ap length call.argument_is in
          record {
            start = n * size;
            offset = o;
            start_plus_offset = adds;
            argument = call.argument;
            argument_is = subst (IsChunk xs size (n * size)) (sym call.argument_is) (is_run xs size n s within);
            offset_in_chunk = omega arith;
            old_element = ap (λ zs. get_or zs o d) call.argument_is ∙ read xs;
            after_call = call.after_call;
            call = call.call;
            new_element = ap (λ zs. get_or zs o d) call.left ∙ read ys;
          }

module _ {F T : Type 0} (g : Shared F (ℕ × (MutBor T × Unit {0})) ((Unit {0}) × (MutBor T × Unit {0}))) (f : F) where
  -- the only item of a list
  pub only_changed : (i : ℕ) (xs : List T) (y r d : T) → length xs ≡ 1 → ChangesAt g f i (get_or xs 0 r) y →
      ChangesAt g f i (get_or xs 0 d) (get_or (set xs 0 y) 0 d)
  only_changed i [] y r d n h = absurd (omega arith)
  only_changed i (x ∷ xs) y r d n h = h

  -- an item in a run of its own
  pub item_changed : (start offset i : ℕ) (xs ys us vs : List T) (d : T) → start + offset ≡ i → offset < length us → length us ≤ 1 →
      get_or us offset d ≡ get_or xs i d → get_or vs offset d ≡ get_or ys i d → ChangesAt g f start (get_or us 0 d) (get_or vs 0 d) →
      ChangesAt g f i (get_or xs i d) (get_or ys i d)
  item_changed start offset i xs ys us vs d e l n p q h =
      subst (λ k. ChangesAt g f k (get_or xs i d) (get_or ys i d)) (omega arith)
      (subst (λ z. ChangesAt g f start z (get_or ys i d)) (ap (λ k. get_or us k d) (sym none) ∙ p)
      (subst (ChangesAt g f start (get_or us 0 d)) (ap (λ k. get_or vs k d) (sym none) ∙ q) h))
    where
      none : offset ≡ 0
      none = omega arith
