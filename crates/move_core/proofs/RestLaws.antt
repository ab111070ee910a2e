-- The clause on the rest, after a Seed and after all other events of one pass.
use Rattle.std.proofs.Common.{◌≡◌, ℕ, ◌+◌, ◌*◌, ◌^◌, ◌<◌, true, false, max, List, length, length-set, get_or, set, if◌then◌else◌, sym, ap, ◌∙◌, arith}
use Rattle.std.proofs.lemmas.Bool.{true≢false}
use Rattle.move_core.specs.declared.account.Account.{Account}
use Rattle.move_core.specs.State.{Readings, blank}
use Rattle.move_core.specs.Balance.{Rest}
use Rattle.move_core.proofs.TimesLaws.{total_changed, total_unchanged, all_changed}

-- what a pass may draw in seeds
abbrev pub seed_room : Account → ℕ
seed_room a = if a.live then max (2 ^ 32) a.seeds else 0

room_at : (a : Account) → a.live ≡ true → seed_room a ≡ max (2 ^ 32) a.seeds
room_at a e = ap (λ b. if b then max (2 ^ 32) a.seeds else 0) e

module _ (r r' : Readings) (accounts : List Account) (i : ℕ) (a a' : Account) (l : i < length accounts) (at : get_or accounts i (blank false) ≡ a)
    (c : Rest r accounts) (live : a.live ≡ true) (live' : a'.live ≡ true) where
  rest_changed : r'.cursor + a.seeds ≡ r.cursor + a'.seeds → seed_room a' ≡ seed_room a → Rest r' (set accounts i a')
  rest_changed e q = record {
    made = let m = c.made in let n = length-set accounts i a' in omega arith;
    cursor =
        let t = total_changed accounts i a a' l at (λ x. x.seeds) in
        let w = c.cursor in
        omega arith;
    seeds =
        let t = total_unchanged accounts i a a' l at seed_room q in
        let w = c.seeds in
        let n : 2 ^ 32 * length (set accounts i a') ≡ 2 ^ 32 * length accounts = ap (λ k. 2 ^ 32 * k) (length-set accounts i a') in
        omega arith;
    ended = all_changed accounts i a a' l at (λ x. x.live ≡ false → x ≡ blank false) c.ended (λ f. absurd (true≢false (sym live' ∙ f)));
  }

  pub rest_kept : a'.seeds ≡ a.seeds → r'.cursor ≡ r.cursor → Rest r' (set accounts i a')
  rest_kept e q =
      rest_changed (omega arith)
      (let x = room_at a live in let y = room_at a' live' in let z = ap (max (2 ^ 32)) e in omega arith)

  -- Seed
  pub rest_seeded : a.seeds < 2 ^ 32 → a'.seeds ≡ a.seeds + 1 → r'.cursor ≡ r.cursor + 1 → Rest r' (set accounts i a')
  rest_seeded h e q =
      rest_changed (omega arith)
      (let x = room_at a live in let y = room_at a' live' in let z = ap (max (2 ^ 32)) e in omega arith)
