-- Laws of a zone's numbers: counts moved, the holder worked out, cars counted anew, zone after zone.
use Rattle.std.specs.Prelude.{◌≡◌, ℕ, ◌+◌, ◌-◌, ◌*◌, ◌%◌, ◌<◌, ◌≤◌, Bool, true, false, cond, List, [], ◌∷◌, ◌++◌, length, drop, set, replicate, ◌==◌, ◌≢◌, nat_eq, nat_le, nat_lt, slice_index, slice_set}
use Rattle.std.proofs.Math.Path.{refl, ap, sym, subst}
use Rattle.std.proofs.Common.{◌∙◌, ⊎_elim, append-nil, add-zero, mod-eq_of_lt, length-set, length-append, drop_of_length-le, drop-cons, get_or-set_same, get_or-set_other, le-leb, eq-eqb, ne_eqb, lt-ltb, le-ltb}
use native.Mathlib.Omega.{arith}
use Rattle.std.proofs.Math.Numerals.{add-one}
use Rattle.std.proofs.Math.ListN.{get_or-replicate}
use Rattle.std.proofs.lemmas.List.Edits.{sets}
use Rattle.std.proofs.Math.Seq.{length-sets}
use Rattle.std.proofs.lemmas.Bool.{lt-leb}
use borrow.Rule.Slice.PartMut.{mid_of, put_mid, mid_len}
use Rattle.order.specs.Order.{span, upto, keep}
use Rattle.order.specs.KeepLaws.{keep_append, keep-yes, keep-no, length-keep, length-span}
use Rattle.order.specs.TestLaws.{lt-or-le, same-or-other, true-or-false}
use Rattle.model.specs.Teams.{last_team, lead, ranked}
use Rattle.model.specs.TeamLaws.{lead-ext}
use Rattle.tables.specs.Tables.{tally}
use Rattle.tables.specs.Slots.{slot_in, tally_at}
use Rattle.tables.specs.Rows.{marked, row}
use Rattle.tables.specs.RowLaws.{part-stored, row_more}
use Rattle.tables.specs.TallyLaws.{Counts, counts-own, counts-ranked}
use Rattle.tallies.specs.Counts.{bumped, raised, settled, swung, joined, squad_in, counted, turned, moved}

-- ---- a zone's row

length-raised : (r : List ℕ) (g v : ℕ) → length (raised r g v) ≡ length r
unfolding raised
length-raised r g v = length-set (bumped r 0 v) (g + 1) _ ∙ length-set r 0 _

length-settled : (r : List ℕ) → length (settled r) ≡ length r
unfolding settled
length-settled r = length-set r 9 _

-- as the code writes it, number by number
pub raise-both : (r : List ℕ) (g v : ℕ) {r₁ r₂ : List ℕ} → r₁ ≡ bumped r 0 v → r₂ ≡ bumped r₁ (g + 1) v → r₂ ≡ raised r g v
unfolding raised
raise-both r g v e f = f ∙ ap (λ (l : List ℕ). bumped l (g + 1) v) e

pub settle-one : (r : List ℕ) {n : ℕ} → n ≡ lead (λ (g : ℕ). slice_index r (g + 1)) → slice_set r 9 n ≡ settled r
unfolding settled
settle-one r e = ap (set r 9) e

pub join_one : (byte g : ℕ) (r : List ℕ) {r' : List ℕ} → (byte ≢ 0) → r' ≡ raised r g 1 → r' ≡ joined byte g r
join_one byte g r f e = e ∙ rw (lt-ltb 0 byte (omega arith))

pub join-none : (byte g : ℕ) (r : List ℕ) → byte ≡ 0 → r ≡ joined byte g r
join-none byte g r e = rw (le-ltb 0 byte (omega arith))

-- the holder stays
raised-holder : (r : List ℕ) (g v : ℕ) → g ≤ last_team → slice_index (raised r g v) 9 ≡ slice_index r 9
unfolding raised
raised-holder r g v few = get_or-set_other (bumped r 0 v) (g + 1) 9 ((slice_index (bumped r 0 v) (g + 1) + v) % 4294967296) 0 (λ (e : 9 ≡ g + 1). omega arith) ∙ get_or-set_other r 0 9 ((slice_index r 0 + v) % 4294967296) 0 (λ (e : ◌≡◌ {A = ℕ} 9 0). omega arith)

-- v cars of team g more, other teams as they were
pub counts-raised : {r : List ℕ} {n n' : ℕ} {f f' : ℕ → ℕ} (g v : ℕ) → Counts r n f → g ≤ last_team → (n + v) % 4294967296 ≡ n' → (f g + v) % 4294967296 ≡ f' g → ((h : ℕ) → (h ≢ g) → f h ≡ f' h) → Counts (raised r g v) n' f'
unfolding raised
counts-raised {r} {n} {n'} {f} {f'} g v k few total team others =
    let one = bumped r 0 v in
    let long = k.long in
    let long' : length one ≡ tally = length-set r 0 _ ∙ long in
    let old : (h : ℕ) → h ≤ last_team → slice_index one (h + 1) ≡ f h = λ h l. get_or-set_other r 0 (h + 1) _ 0 (λ (e : h + 1 ≡ 0). omega arith) ∙ k.teams h l in
    record {
      long = length-raised r g v ∙ long;
      count = get_or-set_other one (g + 1) 0 _ 0 (λ (e : 0 ≡ g + 1). omega arith) ∙ get_or-set_same r 0 _ 0 (omega arith) ∙ ap (λ (i : ℕ). (i + v) % 4294967296) k.count ∙ total;
      teams = λ h l. ⊎_elim
          (λ (e : h ≡ g). rw e (get_or-set_same one (g + 1) _ 0 (omega arith) ∙ ap (λ (i : ℕ). (i + v) % 4294967296) (old g few) ∙ team))
          (λ (o : h ≡ g → ⊥). get_or-set_other one (g + 1) (h + 1) _ 0 (λ (e : h + 1 ≡ g + 1). o (omega arith)) ∙ old h l ∙ others h o)
          (same-or-other h g);
    }

-- with its holder the row is right
pub counts-settled : {r : List ℕ} {n : ℕ} {f : ℕ → ℕ} → Counts r n f → settled r ≡ n ∷ ranked f
unfolding settled
counts-settled {r} {n} {f} k =
    let first = lead (λ (g : ℕ). slice_index r (g + 1)) in
    let long = k.long in
    counts-ranked (record {
      long = length-set r 9 first ∙ long;
      count = get_or-set_other r 9 0 first 0 (λ (e : ◌≡◌ {A = ℕ} 0 9). omega arith) ∙ k.count;
      teams = λ g l. get_or-set_other r 9 (g + 1) first 0 (λ (e : g + 1 ≡ 9). omega arith) ∙ k.teams g l;
    }) (get_or-set_same r 9 first 0 (omega arith) ∙ lead-ext (λ (g : ℕ). slice_index r (g + 1)) f (λ g r. k.teams g r.1))

-- both, or for a spectator the counts alone
pub swing-team : (r : List ℕ) (g v : ℕ) {r₁ r₂ : List ℕ} → 0 < g → r₁ ≡ raised r g v → r₂ ≡ settled r₁ → r₂ ≡ swung r g v
unfolding swung
swing-team r g v h e f = f ∙ ap settled e ∙ rw (lt-ltb 0 g h)

pub swing-none : (r : List ℕ) (g v : ℕ) {r₁ : List ℕ} → g ≤ 0 → r₁ ≡ raised r g v → r₁ ≡ swung r g v
unfolding swung
swing-none r g v h e = e ∙ rw (le-ltb 0 g h)

pub length-swung : (r : List ℕ) (g v : ℕ) → length (swung r g v) ≡ length r
unfolding swung
length-swung r g v = go (nat_lt 0 g)
  where
    go : (b : Bool) → length (cond b (settled (raised r g v)) (raised r g v)) ≡ length r
    go true = length-settled (raised r g v) ∙ length-raised r g v
    go false = length-raised r g v

pub counts-swung : {r : List ℕ} {n n' : ℕ} {f f' : ℕ → ℕ} (g v : ℕ) → Counts r n f → slice_index r 9 ≡ lead f → g ≤ last_team → (n + v) % 4294967296 ≡ n' → (f g + v) % 4294967296 ≡ f' g → ((h : ℕ) → (h ≢ g) → f h ≡ f' h) → swung r g v ≡ n' ∷ ranked f'
unfolding swung
counts-swung {r} {n} {n'} {f} {f'} g v k held few total team others =
    let c = counts-raised g v k few total team others in
    ⊎_elim
    (λ (h : 0 < g). rw (lt-ltb 0 g h) (counts-settled c))
    (λ (h : g ≤ 0). rw (le-ltb 0 g h) (counts-ranked c (raised-holder r g v few ∙ held ∙ lead-ext f f' (λ i q. others i (λ (e : i ≡ g). omega (arith, q.0))))))
    (lt-or-le 0 g)

-- ---- zones that a car enters and leaves

-- a zone's row lent and written
module _ (tallies : List ℕ) (z : ℕ) (h : z * tally + tally ≤ length tallies) where
  row_put : (r : List ℕ) → length r ≡ tally → put_mid (z * tally) (z * tally + tally - z * tally) tallies r ≡ sets tallies (z * tally) r
  row_put r l = part-stored tallies r (z * tally) (z * tally + tally) (omega arith) h (omega arith)

  -- cleared
  pub row-cleared : (r : List ℕ) → r ≡ replicate (length (mid_of (z * tally) (z * tally + tally - z * tally) tallies)) 0 → put_mid (z * tally) (z * tally + tally - z * tally) tallies r ≡ sets tallies (z * tally) (replicate tally 0)
  row-cleared r e =
      let n : length (mid_of (z * tally) (z * tally + tally - z * tally) tallies) ≡ tally = mid_len (z * tally) (z * tally + tally) tallies h ∙ omega arith in
      let q : r ≡ replicate tally 0 = e ∙ ap (λ (m : ℕ). replicate m 0) n in
      row_put r (ap length q) ∙ ap (sets tallies (z * tally)) q

module _ (tallies : List ℕ) (z g v : ℕ) where
  -- the row lent and written
  pub turn-there : z * tally + tally ≤ length tallies → (r : List ℕ) → r ≡ swung (mid_of (z * tally) (z * tally + tally - z * tally) tallies) g v → put_mid (z * tally) (z * tally + tally - z * tally) tallies r ≡ turned tallies z g v
  unfolding turned
  turn-there h r e =
      let d : z * tally + tally - z * tally ≡ tally = omega arith in
      let q : r ≡ swung (tally_at tallies z) g v = e ∙ ap (λ (n : ℕ). swung (mid_of (z * tally) n tallies) g v) d in
      let l : length r ≡ tally = ap length e ∙ length-swung _ g v ∙ mid_len (z * tally) (z * tally + tally) tallies h ∙ d in
      rw (le-leb _ _ h) (row_put tallies z h r l ∙ ap (sets tallies (z * tally)) q)

  pub turn-away : length tallies < z * tally + tally → tallies ≡ turned tallies z g v
  unfolding turned
  turn-away h = rw (lt-leb _ _ h)

  pub length-turned : length (turned tallies z g v) ≡ length tallies
  unfolding turned
  length-turned = go (nat_le (z * tally + tally) (length tallies))
    where
      go : (b : Bool) → length (cond b (sets tallies (z * tally) (swung (tally_at tallies z) g v)) tallies) ≡ length tallies
      go true = length-sets tallies (z * tally) (swung (tally_at tallies z) g v)
      go false = refl

-- of a list of zones those before place i are done
pub record Moving (b zs : List ℕ) (g v : ℕ) (b' : List ℕ) (i : ℕ) : Type 0 where
  pub left : moved b' (drop i zs) g v ≡ moved b zs g v
  pub long : length b' ≡ length b

module _ (b zs : List ℕ) (g v : ℕ) where
  pub move-begins : Moving b zs g v b 0
  move-begins = record { left = refl; long = refl }

  pub move-turns : {b' b'' : List ℕ} {i : ℕ} → Moving b zs g v b' i → i < length zs → b'' ≡ turned b' (slice_index zs i) g v → Moving b zs g v b'' (i + 1)
  unfolding moved
  move-turns {b'} {b''} {i} s h e = record { left = ap (λ (l : List ℕ). moved l (drop (i + 1) zs) g v) e ∙ rw (drop-cons zs i 0 h, ← add-one i) at s.left; long = ap length e ∙ length-turned b' (slice_index zs i) g v ∙ s.long }

  pub move-ends : {b' : List ℕ} {i : ℕ} → Moving b zs g v b' i → length zs ≤ i → b' ≡ moved b zs g v
  unfolding moved
  move-ends {b'} {i} s h = sym (ap (λ (l : List ℕ). moved b' l g v) (drop_of_length-le zs h)) ∙ s.left

-- ---- a zone's numbers anew

-- the counts of the cars below c, by a row of the rosters
pub record Totals (cars rosters : List ℕ) (from many c : ℕ) (r : List ℕ) : Type 0 where
  pub low : c ≤ many
  pub counts : Counts r (length (row rosters from c)) (squad_in cars rosters from c)

module _ (cars rosters : List ℕ) (from many : ℕ) where
  pub totals-none : {r : List ℕ} → r ≡ replicate tally 0 → Totals cars rosters from many 0 r
  unfolding span keep
  totals-none {r} e = rw e (record { low = omega arith; counts = record { long = refl; count = refl; teams = λ g l. get_or-replicate tally (g + 1) 0 0 (omega arith) } })

  few : (c : ℕ) → length (row rosters from c) ≤ c
  few c = omega (arith, length-keep (marked rosters from) (upto c), length-span 0 c)

  squad-few : (c g : ℕ) → squad_in cars rosters from c g ≤ c
  squad-few c g = omega (arith, length-keep (λ (d : ℕ). nat_eq (slot_in cars d) g) (row rosters from c), few c)

  -- one car more
  pub totals-more : {r r' : List ℕ} {c g : ℕ} → Totals cars rosters from many c r → c < many → many ≤ 1024 → g ≡ slot_in cars c → r' ≡ joined (slice_index rosters (from + c)) g r → Totals cars rosters from many (c + 1) r'
  unfolding keep
  totals-more {r} {r'} {c} k below small own e = rw (e, own) (⊎_elim
      (λ (on : marked rosters from c ≡ true). rw on (record { low = omega arith; counts = counts-raised (slot_in cars c) 1 k.counts (omega arith) (total on) (team on) (others on) }))
      (λ (off : marked rosters from c ≡ false). rw off (record { low = omega arith; counts = subst (λ (l : List ℕ). Counts r (length l) (λ (g : ℕ). length (keep (q g) l))) (sym (same off)) k.counts }))
      (true-or-false (marked rosters from c)))
    where
      q : ℕ → ℕ → Bool
      q g d = slot_in cars d == g

      more : marked rosters from c ≡ true → row rosters from (c + 1) ≡ row rosters from c ++ (c ∷ [])
      more on = row_more rosters from c ∙ ap (λ (l : List ℕ). row rosters from c ++ l) (keep-yes (marked rosters from) c [] on)

      same : marked rosters from c ≡ false → row rosters from (c + 1) ≡ row rosters from c
      same off = row_more rosters from c ∙ ap (λ (l : List ℕ). row rosters from c ++ l) (keep-no (marked rosters from) c [] off) ∙ append-nil (row rosters from c)

      total : marked rosters from c ≡ true → (length (row rosters from c) + 1) % 4294967296 ≡ length (row rosters from (c + 1))
      total on = rw (more on, length-append (row rosters from c) (c ∷ [])) (mod-eq_of_lt (omega (arith, few c)))

      split : marked rosters from c ≡ true → (g : ℕ) → squad_in cars rosters from (c + 1) g ≡ squad_in cars rosters from c g + length (keep (q g) (c ∷ []))
      split on g = ap (λ (l : List ℕ). length (keep (q g) l)) (more on) ∙ ap length (keep_append (q g) (row rosters from c) (c ∷ [])) ∙ length-append (keep (q g) (row rosters from c)) (keep (q g) (c ∷ []))

      team : marked rosters from c ≡ true → (squad_in cars rosters from c (slot_in cars c) + 1) % 4294967296 ≡ squad_in cars rosters from (c + 1) (slot_in cars c)
      team on =
          let g = slot_in cars c in
          mod-eq_of_lt (omega (arith, squad-few c g)) ∙ sym (split on g ∙ ap (λ (l : List ℕ). squad_in cars rosters from c g + length l) (keep-yes (q g) c [] (eq-eqb g g refl)))

      others : marked rosters from c ≡ true → (h : ℕ) → (h ≢ slot_in cars c) → squad_in cars rosters from c h ≡ squad_in cars rosters from (c + 1) h
      others on h o = sym (split on h ∙ ap (λ (l : List ℕ). squad_in cars rosters from c h + length l) (keep-no (q h) c [] (ne_eqb (slot_in cars c) h (λ e. o (sym e)))) ∙ add-zero (squad_in cars rosters from c h))

  length-counted : length (counted cars rosters from many) ≡ tally
  unfolding counted
  length-counted = (counts-own (length (row rosters from many)) (squad_in cars rosters from many)).long

  pub row-counted : (tallies : List ℕ) (z : ℕ) → z * tally + tally ≤ length tallies → (r : List ℕ) → r ≡ counted cars rosters from many → put_mid (z * tally) (z * tally + tally - z * tally) tallies r ≡ sets tallies (z * tally) (counted cars rosters from many)
  row-counted tallies z h r e = row_put tallies z h r (ap length e ∙ length-counted) ∙ ap (sets tallies (z * tally)) e

  pub totals-settled : {c : ℕ} {r : List ℕ} → Totals cars rosters from many c r → many ≤ c → settled r ≡ counted cars rosters from many
  unfolding counted
  totals-settled {c} {r} k h = let e : c ≡ many = omega (arith, k.low) in counts-settled k.counts ∙ ap (counted cars rosters from) e
