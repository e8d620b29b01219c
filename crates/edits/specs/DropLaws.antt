-- What sound tables give without the keys of one zone: the entries and the starts of the tables without it.
use Rattle.std.specs.Prelude.{ℕ, suc, ◌+◌, ◌-◌, ◌*◌, ◌/◌, ◌%◌, ◌<◌, ◌≡◌, refl, Bool, true, false, cond, not, ◌&&◌, length, get_or, take, drop, replicate}
use Rattle.std.proofs.Math.Path.{ap}
use Rattle.std.proofs.Common.{ap₂, sym, ◌∙◌, arith, take_at, drop_at, eq-eqb, eqb-true}
use mathlib.Core.List.{List, [], ◌∷◌, ◌++◌, Memᴰ}
use Rattle.order.specs.Order.{upto, keep}
use Rattle.order.specs.Buffer.{rank}
use Rattle.order.specs.RankLaws.{rank-keep}
use Rattle.order.specs.KeepLaws.{span→, keep-ext, keep-keep}
use Rattle.order.specs.RisingLaws.{rising-span, rising-keep, rising-is-keep}
use Rattle.order.specs.TestLaws.{and→}
use Rattle.squares.specs.Squares.{squares}
use Rattle.squares.specs.ShapeLaws.{fits→}
use Rattle.cuts.specs.Cut.{in_cut}
use Rattle.tables.specs.Tables.{Tables, shape_of, entry_room, rect_of, stands}
use Rattle.tables.specs.Derived.{on, level_at, number_at, keys_to, used, free, entries_of, starts_of}
use Rattle.tables.specs.Sound.{Sound}
use Rattle.tables.specs.Steps.{zoned, without_zone}
use Rattle.tables.specs.RecordLaws.{entries-fresh}
use Rattle.tables.specs.RunLaws.{start-at, start-within, stands-below}
use Rattle.tables.specs.CheckLaws.{size_of}
use Rattle.starts.specs.Starts.{ranks}
use Rattle.starts.specs.RankLaws.{map_same, rank-start}
use Rattle.entries.specs.Keys.{zone_keys}
use Rattle.entries.specs.KeyLaws.{cut_at, keys-rise, keys→, →keys}
use Rattle.entries.specs.Drops.{of_zone, of_other, own, others, in_use, Ordered, Listed, Dropped}
use Rattle.edits.specs.ZoneLaws.{length_without, on-without, sized-zoned}

-- a list's keys are those of zone z and the others
pub length-parts : (z : ℕ) (l : List ℕ) → length l ≡ length (others z l) + length (own z l)
unfolding keep
length-parts z [] = refl
length-parts z (key ∷ l) = go (of_zone z key) (length-parts z l)
  where
    go : (b : Bool) → length l ≡ length (others z l) + length (own z l) → suc (length l) ≡ length (cond (not b) (key ∷ others z l) (others z l)) + length (cond b (key ∷ own z l) (own z l))
    go true e = omega arith
    go false e = omega arith

module _ {t : Tables} (sound : Sound t) (z : ℕ) where
  abbrev left : Tables
  left = zoned t (without_zone t.records.zones z)

  -- ---- the entries in use

  -- the last start counts them
  pub last-start : in_use t.derived.starts ≡ length (used t)
  last-start =
      let e : length t.derived.starts - 1 ≡ squares (shape_of t) = omega (arith, (size_of sound).lengths.starts) in
      ap (λ (i : ℕ). get_or t.derived.starts i 0) e ∙ start-at sound (squares (shape_of t)) (omega arith)

  abbrev marks : List ℕ
  marks = replicate (entry_room t - length (used t)) free

  pub front : take (in_use t.derived.starts) t.derived.entries ≡ used t
  front = ap₂ take last-start (entries-fresh sound) ∙ take_at (used t) marks (length (used t)) refl

  back : drop (in_use t.derived.starts) t.derived.entries ≡ replicate (length t.derived.entries - in_use t.derived.starts) free
  back = ap₂ drop last-start (entries-fresh sound) ∙ drop_at (used t) marks (length (used t)) refl ∙ ap₂ (λ (n m : ℕ). replicate (n - m) free) (sym (size_of sound).lengths.entries) (sym last-start)

  in_order : Ordered 0 (in_use t.derived.starts) t.derived.starts t.derived.entries
  in_order = record {
    rising = rw front (rising-keep (on t) (upto (squares (shape_of t) * 256)) (rising-span 0 (squares (shape_of t) * 256)));
    starts = λ p l h. start-at sound p (omega (arith, (size_of sound).lengths.starts)) ∙ sym (ap (rank (p * 256)) front ∙ rank-keep (on t) (p * 256) (squares (shape_of t) * 256) (omega (arith, (size_of sound).lengths.starts)));
  }

  -- ---- those of a zone that stands

  module _ (stand : stands t z ≡ true) where
    on-own : (key : ℕ) → key % 256 ≡ z → on t key ≡ cut_at (shape_of t) (rect_of t z) (key / 256)
    unfolding on
    on-own key e = ap (λ (y : ℕ). stands t y && in_cut (shape_of t) (rect_of t y) (level_at (shape_of t) (key / 256)) (number_at (shape_of t) (key / 256))) e ∙ rw stand

    -- they are the keys of its rectangle
    own_keys : zone_keys (shape_of t) (rect_of t z) z ≡ own z (used t)
    own_keys =
        rising-is-keep (λ (key : ℕ). on t key && of_zone z key) (squares (shape_of t) * 256) (zone_keys (shape_of t) (rect_of t z) z) (keys-rise (shape_of t) (rect_of t z) (size_of sound).shape z) from to
        ∙ sym (keep-keep (of_zone z) (on t) (upto (squares (shape_of t) * 256)))
      where
        from : (key : ℕ) → Memᴰ key (zone_keys (shape_of t) (rect_of t z) z) → (key < squares (shape_of t) * 256) × ((on t key && of_zone z key) ≡ true)
        from key m =
            let k = keys→ (shape_of t) (rect_of t z) (size_of sound).shape z (omega (arith, stands-below t z (size_of sound) stand, (size_of sound).room.zones-few)) key m in
            (omega (arith, k.0), rw (on-own key k.1.0, k.1.1, eq-eqb (key % 256) z k.1.0))

        to : (key : ℕ) → key < squares (shape_of t) * 256 → (on t key && of_zone z key) ≡ true → Memᴰ key (zone_keys (shape_of t) (rect_of t z) z)
        to key h e =
            let k = and→ (on t key) (of_zone z key) e in
            let q : key % 256 ≡ z = eqb-true (key % 256) z k.1 in
            →keys (shape_of t) (rect_of t z) (size_of sound).shape z key (omega arith) q (sym (on-own key q) ∙ k.0)

    pub zone-listed : Listed (shape_of t) (rect_of t z) z (in_use t.derived.starts) t.derived.starts t.derived.entries
    zone-listed = record {
      rect = fits→ (shape_of t) (rect_of t z) (sound.zones z stand);
      within = omega (arith, last-start, start-within sound (squares (shape_of t)) (omega arith));
      ordered = in_order;
      keys = rw front own_keys;
      marks = back;
    }

  -- ---- without them

  -- the keys of other zones are those of the tables without zone z
  keys-without : others z (used t) ≡ used left
  keys-without =
      let all = upto (squares (shape_of t) * 256) in
      keep-keep (of_other z) (on t) all ∙ keep-ext (λ (k : ℕ). on t k && of_other z k) (on left) all (λ k m. sym (on-without t z k))

  module _ {s e : List ℕ} (d : Dropped z (in_use t.derived.starts) t.derived.starts s t.derived.entries e) where
    pub entries-without : e ≡ entries_of left
    entries-without = d.left ∙ ap₂ (λ (l : List ℕ) (n : ℕ). l ++ replicate (n - length l) free) (ap (others z) front ∙ keys-without) (size_of sound).lengths.entries

    pub starts-without : s ≡ starts_of left
    starts-without =
        d.counted ∙ ap₂ (λ (l : List ℕ) (n : ℕ). ranks l n) entries-without (size_of sound).lengths.starts
        ∙ map_same (λ (p : ℕ). rank (p * 256) (entries_of left)) (λ (p : ℕ). length (keys_to left p)) (upto (squares (shape_of t) + 1)) (λ p m. rank-start left (sized-zoned t (without_zone t.records.zones z) (size_of sound) (length_without t.records.zones z)) p (omega (arith, span→ 0 (squares (shape_of t) + 1) p m)))
