-- What a file with one entry a line spells, line by line.
use Rattle.std.proofs.Common.{◌≡◌, ℕ, suc, Bool, true, cond, List, [], ◌∷◌, ◌++◌, length, map, take, drop, nat_lt, refl, sym, ap, ◌∙◌, append_assoc, arith}
use Rattle.std.proofs.lemmas.Bool.Decides.{nat_tests}
use Rattle.std.specs.Prelude.{Result, Ok, Err, option_map}
use Rattle.std.specs.Result.{result_ok, result_err}
use Rattle.std.specs.List.{filter_map, cons_option}
use Rattle.hg_text.specs.Kept.{Line, Reading}
use Rattle.part_text.specs.declared.fault.PartKind.{PartKind}
use Rattle.part_text.specs.Entries.{Fault, fault_of, entry_of, extra, missing, faults, unless_faulty, spelled}

nat_lt-zero : (n : ℕ) → nat_lt 0 (suc n) ≡ true
nat_lt-zero n = grind (arith, nat_tests)

nat_lt-suc : (a b : ℕ) → nat_lt (suc a) (suc b) ≡ nat_lt a b
nat_lt-suc a b = grind (arith, nat_tests)

-- entries before those of the rest of the lines
abbrev pub behind : List ℕ → Result (List ℕ) Fault → Result (List ℕ) Fault
behind xs (Ok ys) = Ok (xs ++ ys)
behind xs (Err fault) = Err fault

pub behind-nil : (r : Result (List ℕ) Fault) → behind [] r ≡ r
behind-nil (Ok ys) = refl
behind-nil (Err fault) = refl

pub behind-push : (xs : List ℕ) (x : ℕ) (r : Result (List ℕ) Fault) → behind xs (behind (x ∷ []) r) ≡ behind (xs ++ x ∷ []) r
behind-push xs x (Ok ys) = ap Ok (sym (append_assoc xs (x ∷ []) ys))
behind-push xs x (Err fault) = refl

module _ (entry : List (List ℕ) → Result ℕ PartKind) where
  pub spelled-end : (text : Reading) → text.kept ≡ [] → spelled entry 0 text ≡ Ok []
  spelled-end text none = ap (λ (ls : List Line). spelled entry 0 (record { kept = ls; count = text.count })) none

  pub spelled-extra : (text : Reading) (line : Line) (later : List Line) → text.kept ≡ line ∷ later → spelled entry 0 text ≡ Err (extra line)
  spelled-extra text line later is = ap (λ (ls : List Line). spelled entry 0 (record { kept = ls; count = text.count })) is

  pub spelled-missing : (n : ℕ) (text : Reading) → text.kept ≡ [] → spelled entry (suc n) text ≡ Err (missing text.count)
  spelled-missing n text none =
      ap (λ (ls : List Line). spelled entry (suc n) (record { kept = ls; count = text.count })) none
      ∙ ap (λ (b : Bool). unless_faulty (cond b (missing text.count ∷ []) []) []) (nat_lt-zero n)

  -- what follows from the result of the first line
  spelled-by : (n : ℕ) (text : Reading) (line : Line) (later : List Line) (r : Result ℕ PartKind) → text.kept ≡ line ∷ later → entry line.fields ≡ r →
      spelled entry (suc n) text ≡ unless_faulty (cons_option (option_map (λ kind. record { line = line.number; kind = kind }) (result_err r))
      (filter_map (fault_of entry) (take n later)) ++ map extra (drop n later) ++ cond (nat_lt (suc (length later)) (suc n)) (missing text.count ∷ []) [])
      (cons_option (result_ok r) (filter_map (entry_of entry) (take n later)))
  spelled-by n text line later r is e =
      ap (λ (ls : List Line). spelled entry (suc n) (record { kept = ls; count = text.count })) is
      ∙ ap (λ (q : Result ℕ PartKind). unless_faulty (cons_option (option_map (λ kind. record { line = line.number; kind = kind }) (result_err q))
      (filter_map (fault_of entry) (take n later)) ++ map extra (drop n later) ++ cond (nat_lt (suc (length later)) (suc n)) (missing text.count ∷ []) [])
      (cons_option (result_ok q) (filter_map (entry_of entry) (take n later)))) e

  pub spelled-fault : (n : ℕ) (text : Reading) (line : Line) (later : List Line) (kind : PartKind) → text.kept ≡ line ∷ later →
      entry line.fields ≡ Err kind →
      spelled entry (suc n) text ≡ Err (record { line = line.number; kind = kind })
  spelled-fault n text line later kind is e = spelled-by n text line later (Err kind) is e

  pub spelled-next : (n : ℕ) (text rest : Reading) (line : Line) (x : ℕ) → text.kept ≡ line ∷ rest.kept → rest.count ≡ text.count →
      entry line.fields ≡ Ok x →
      spelled entry (suc n) text ≡ behind (x ∷ []) (spelled entry n rest)
  spelled-next n text rest line x is same e =
      spelled-by n text line rest.kept (Ok x) is e
      ∙ ap (λ (b : Bool). unless_faulty (filter_map (fault_of entry) (take n rest.kept) ++ map extra (drop n rest.kept) ++ cond b (missing text.count ∷ [])
      [])
      (x ∷ filter_map (entry_of entry) (take n rest.kept))) (nat_lt-suc (length rest.kept) n)
      ∙ ap (λ (count : ℕ). unless_faulty (filter_map (fault_of entry) (take n rest.kept) ++ map extra (drop n rest.kept) ++ cond
      (nat_lt (length rest.kept) n)
      (missing count ∷ []) []) (x ∷ filter_map (entry_of entry) (take n rest.kept))) (sym same)
      ∙ one_more (faults entry n rest) where
        one_more : (fs : List Fault) → unless_faulty fs (x ∷ filter_map (entry_of entry) (take n rest.kept)) ≡ behind (x ∷ [])
            (unless_faulty fs (filter_map (entry_of entry) (take n rest.kept)))
        one_more [] = refl
        one_more (f ∷ fs) = refl

  -- the same behind the entries of earlier lines
  pub behind-fault : (xs : List ℕ) (m n : ℕ) (text : Reading) (line : Line) (later : List Line) (kind : PartKind) (number : ℕ) → m ≡ suc n →
      text.kept ≡ line ∷
      later → entry line.fields ≡ Err kind → number ≡ line.number → behind xs (spelled entry m text) ≡ Err (record { line = number; kind = kind })
  behind-fault xs m n text line later kind number more is e at =
      ap (λ (i : ℕ). behind xs (spelled entry i text)) more
      ∙ ap (behind xs) (spelled-fault n text line later kind is e)
      ∙ ap (λ (i : ℕ). Err (record { line = i; kind = kind })) (sym at)

  pub behind-next : (xs : List ℕ) (m n : ℕ) (text rest : Reading) (line : Line) (x : ℕ) → m ≡ suc n → text.kept ≡ line ∷ rest.kept →
      rest.count ≡ text.count →
      entry line.fields ≡ Ok x → behind xs (spelled entry m text) ≡ behind (xs ++ x ∷ []) (spelled entry n rest)
  behind-next xs m n text rest line x more is same e =
      ap (λ (i : ℕ). behind xs (spelled entry i text)) more ∙ ap (behind xs) (spelled-next n text rest line x is same e) ∙
      behind-push xs x (spelled entry n rest)
