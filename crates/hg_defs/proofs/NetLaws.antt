-- The laws of the nets of a contraction.
use Rattle.std.proofs.Common.{◌≡◌, ℕ, Bool, true, false, if◌then◌else◌, List, [], map, length, get_or, filter, Contains}
use Rattle.std.proofs.Common.{Decides, refl, sym, ap, subst, subst₂, ◌∙◌, arith, Less, nat_cmp, is_eq}
use Rattle.std.specs.Cmp.Lexicographic.{slice_cmp}
use Rattle.std.proofs.lemmas.List.{length-map, get_or-map}
use Rattle.std.proofs.lemmas.List.Elements.{All-map, All-contains_itself, All-weaker}
use Rattle.hg_defs.specs.Sums.{total}
use Rattle.hg_defs.specs.Hypergraph.{Net, Hyper}
use Rattle.hg_defs.specs.Contraction.{image, images, merged_weight}
use Rattle.hg_defs.specs.NetLaws.{IsImage, ImageRises, ImageHasClusters, NetsAreImages, ImagesAreNets, NetsRise, NetsWeighTogether}
use Rattle.hg_defs.proofs.SumLaws.{total-filter, total-same_each}
use Rattle.hg_defs.proofs.SortLaws.{increasing-set_of, same_key, lists_cmp_total, lists_exact, strict_pairs}
use Rattle.hg_defs.proofs.DistinctLaws.{Contains-map}
use Rattle.hg_defs.proofs.ContractionLaws.{Contains-image, Contains-from_image, Contains-images, Contains-from_images, strict-images}

pub image_rises : ImageRises
image_rises clusters e = increasing-set_of (map (λ v. get_or clusters v 0) e.pins)

pub image_has_clusters : ImageHasClusters
image_has_clusters clusters e i = (Contains-from_image clusters e i, λ x. subst (Contains (image clusters e)) x.2 (Contains-image clusters e x.0 x.1))

-- the net of an image
abbrev merged : Hyper → List ℕ → List ℕ → Net
merged h clusters i = record { weight = merged_weight h clusters i; pins = i }

pub nets_are_images : NetsAreImages
nets_are_images h clusters count =
    All-map (λ (c : Net). IsImage h clusters c.pins) (merged h clusters) (images h clusters)
    (All-weaker (Contains (images h clusters)) (IsImage h clusters) each (images h clusters) (All-contains_itself (images h clusters)))
  where
    each : (pins : List ℕ) → Contains (images h clusters) pins → IsImage h clusters pins
    each pins c = let x = Contains-from_images h clusters pins c in record { net = (x.0, x.1, x.2); several = x.3 }

pub images_are_nets : ImagesAreNets
images_are_nets h clusters count pins is = (
  merged h clusters pins,
  Contains-map (merged h clusters) (images h clusters) pins
      (subst (Contains (images h clusters)) is.net.2 (Contains-images h clusters is.net.0 is.net.1 (let e = ap length is.net.2 in let n = is.several in
      omega arith))),
  refl,
)

pub nets_rise : NetsRise
nets_rise h clusters count i j d l m =
    let n = length-map (images h clusters) (merged h clusters) in
    let a = get_or-map (merged h clusters) (images h clusters) i [] d (omega arith) in
    let b = get_or-map (merged h clusters) (images h clusters) j [] d (omega arith) in
    subst₂ (λ (c e : Net). slice_cmp nat_cmp c.pins e.pins ≡ Less) (sym a) (sym b)
    (strict_pairs lists_cmp_total (images h clusters) (strict-images h clusters) i j [] l (omega arith))

-- two tests of one fact answer alike
same_test : {P : Type 0} (a b : Bool) → Decides a P → Decides b P → a ≡ b
same_test true true s t = refl
same_test true false s t = sym (t.1 (s.0 refl))
same_test false true s t = s.1 (t.0 refl)
same_test false false s t = refl

pub nets_weigh_together : NetsWeighTogether
nets_weigh_together h clusters count =
    All-map (λ (c : Net). (test : Net → Bool) → ((e : Net) → Decides (test e) (image clusters e ≡ c.pins)) → c.weight ≡ total (λ (e : Net). e.weight)
    (filter test h.nets)) (merged h clusters) (images h clusters)
    (λ i d l test told. by (get_or (images h clusters) i d) test told)
  where
    by : (pins : List ℕ) (test : Net → Bool) → ((e : Net) → Decides (test e) (image clusters e ≡ pins)) → merged_weight h clusters pins ≡ total
        (λ (e : Net). e.weight) (filter test h.nets)
    by pins test told =
        total-same_each (λ (e : Net). if is_eq (slice_cmp nat_cmp (image clusters e) pins) then e.weight else 0)
        (λ (e : Net). if test e then e.weight else 0)
        (λ e. ap (λ (b : Bool). if b then e.weight else 0) (same_test (is_eq (slice_cmp nat_cmp (image clusters e) pins)) (test e)
        (same_key lists_cmp_total lists_exact (image clusters e) pins) (told e))) h.nets
        ∙ sym (total-filter (λ (e : Net). e.weight) test h.nets)
