-- A round begins in balance, with the words that a partition has ready.
use Rattle.std.proofs.Common.{◌≡◌, ℕ, zero, suc, ◌+◌, ◌/◌, ◌<◌, List, [], ◌∷◌, length, get_or, refl, ap, ◌∙◌, arith}
use Rattle.hg_base.specs.Packed.{fields_of}
use Rattle.hg_defs.specs.Hypergraph.{Hyper, net_count, net_of}
use Rattle.hg_defs.proofs.MoveLaws.{connectivity_counts}
use Rattle.pin_plain.specs.Opened.{IsOpened}
use Rattle.pin_plain.specs.Counts.{net_bits, net_words, net_place, all_words}
use Rattle.pin_plain.proofs.CountLaws.{fields_enough, word_below, bits_width, net_part}
use Rattle.move_core.specs.State.{IsOpening}
use Rattle.move_core.proofs.OpenLaws.{opening_balance}
use Rattle.move_core.specs.Balance.{IsSetup}
use Rattle.move_table.specs.declared.view.Terms.{Terms}
use Rattle.move_table.specs.Places.{word_count, table_readings}
use Rattle.move_table.specs.Standing.{terms_setup, IsTerms, IsStanding, IsViewAt, first_view, spent_view}

pub setup_of_terms : (t : Terms) → IsTerms t → IsSetup (terms_setup t)
setup_of_terms t k =
    let p = k.parted in
    record { graph = p.sound; bounds = p.bounds; blocks = let f = p.few in omega arith; opening = p.partition; fits = k.fits }

pub begins : (t : Terms) (words : List ℕ) → IsTerms t → length words ≡ word_count (terms_setup t) → IsOpening (terms_setup t)
    (table_readings (terms_setup t) words) → IsStanding t words (first_view t ∷ [])
begins t words ok wide opening = record {
  over = ok;
  wide = wide;
  balance = opening_balance (terms_setup t) (setup_of_terms t ok) (table_readings (terms_setup t) words) opening 1 (omega arith);
  each = each;
  shares = let s = ok.some in omega arith;
  made = ok.some;
}
  where
    each : (i : ℕ) → i < 1 → IsViewAt t (first_view t ∷ []) i (get_or (first_view t ∷ []) i spent_view)
    each zero l = record {
      terms = λ h. refl;
      number = λ h. refl;
      stands = λ h. omega arith;
      first = λ n. absurd (n refl);
      makes = λ h. let s = ok.some in
          omega arith;
    }
    each (suc i) l = absurd (omega arith)

-- the words that a partition has ready are those of an opening
pub is_opening : (t : Terms) (words : List ℕ) → IsTerms t → IsOpened t.part.hyper t.part.k t.part.blocks words → IsOpening (terms_setup t)
    (table_readings (terms_setup t) words)
is_opening t words k h = record {
  claim = λ v l. h.zeros v (omega arith);
  name = λ v l. h.names v l;
  load = λ b l. h.loads b l;
  count = λ e b l m. h.counts e b l (let enough = fields_enough (length (net_of t.part.hyper e).pins) t.part.k in omega arith);
  spread = λ e l. h.spreads e l ∙ ap (λ x. 64 + x) (connectivity_counts t.part.hyper t.part.k t.part.blocks e k.parted.sound k.parted.partition l);
  next = h.zeros _ (omega arith);
  cursor = h.zeros _ (omega arith);
}

-- the word in which a count of a net stands is one of the partition's
pub count_within : (h : Hyper) (k e b bits : ℕ) → e < net_count h → b < k → bits ≡ net_bits h e → net_place h k e + 1 + b / fields_of bits < all_words h k
count_within h k e b bits l low eb =
    let enough = fields_enough (length (net_of h e).pins) k in
    let inside = word_below (net_bits h e) (net_words h k e) b (bits_width (length (net_of h e).pins)) (omega arith) in
    let part = net_part h k e l in
    let same = ap (λ w. net_place h k e + 1 + b / fields_of w) eb in
    omega arith
