-- The walk through a piece, line by line, and what a call leaves then.
use Rattle.std.specs.Prelude.{ℕ, zero, suc, ◌+◌, ◌-◌, ◌<◌, ◌≤◌, ◌≡◌, refl, Bool, true, false, List, [], ◌∷◌, ◌++◌, ltb, length, get_or, take, drop, set, replicate}
use Rattle.std.proofs.Common.{ap, ap₂, sym, subst, ◌∙◌, ⊎_elim, append_assoc, append-nil, arith, add-one, length-drop, length-set, drop_of_length-le, take_all, take-suc-set, length-take-le, drop-drop, length-append, take_at}
use Rattle.std.proofs.lemmas.List.Edits.{sets, sets-eq}
use Rattle.std.proofs.lemmas.List.{set_split, length-replicate}
use borrow.Rule.Slice.PartMut.{mid_of, put_mid, post_of, same_len_mid, mid_len}
use Rattle.order.specs.Order.{over, Wrote}
use Rattle.order.specs.BufferLaws.{wrote_none, wrote-more, wrote-over}
use Rattle.order.specs.TestLaws.{lt-or-le}
use Rattle.tables.specs.Tables.{Tables}
use Rattle.tables.specs.Lent.{both}
use Rattle.line.specs.Grammar.{meaning}
use Rattle.line.specs.Takes.{Takes}
use Rattle.season.specs.Output.{Line, line_of}
use Rattle.room.specs.Room.{Roomed, Ready}
use Rattle.records.specs.Replies.{Replies}
use Rattle.pieces.specs.Pieces.{held_in, holding, writing, fill, finish, counts}
use Rattle.pieces.specs.Leaves.{Lending, GoesOn, text_if, tables_if, Answers, Passes}
use Rattle.records.specs.AfterLaws.{ready-after}
use Rattle.pieces.specs.FillLaws.{stopped, writing-writing, fill_end, fill-full, fill-takes, finish-is}

-- ---- a line

pub answers-none : {t : Tables} {ended : Bool} {line : Line} {o : List ℕ} → ended ≡ false → Answers (both t t) ended line o o 0
answers-none {o = o} e = record { few = omega arith; text = λ ready. rw e (wrote_none o 0); tables = λ ready. rw e }

pub answers-step : {t u : Tables} {ended : Bool} {line : Line} {o o' : List ℕ} {n : ℕ} → ended ≡ true → Replies (both t u) line o o' n → Answers (both t u) ended line o o' n
answers-step e r = record { few = r.few; text = λ ready. rw e (r.text ready); tables = λ ready. rw e (r.tables ready) }

-- ---- the bytes held

-- the bytes from n up to j are 0
pub record Zeroed (b c : List ℕ) (n j : ℕ) : Type 0 where
  pub is : take j c ≡ take n b ++ replicate (j - n) 0
  pub from : n ≤ j
  pub within : j ≤ 81
  pub long : length c ≡ 82

pub zero-begins : (b : List ℕ) (n : ℕ) → length b ≡ 82 → n ≤ 81 → Zeroed b b n n
zero-begins b n l h = let e : n - n ≡ 0 = omega arith in record { is = rw e (sym (append-nil (take n b))); from = omega arith; within = h; long = l }

replicate-snoc : (n : ℕ) → replicate {A = ℕ} (suc n) 0 ≡ replicate {A = ℕ} n 0 ++ (0 ∷ [])
replicate-snoc zero = refl
replicate-snoc (suc n) = ap (λ (l : List ℕ). 0 ∷ l) (replicate-snoc n)

module _ {b c : List ℕ} {n j : ℕ} (z : Zeroed b c n j) where
  pub zero-turns : j < 81 → Zeroed b (set c j 0) n (j + 1)
  zero-turns h =
      let e : j + 1 - n ≡ suc (j - n) = omega (arith, z.from) in
      record {
        is = rw (e, replicate-snoc (j - n), add-one j, take-suc-set c j 0 (omega (arith, z.long)), z.is) (append_assoc (take n b) (replicate (j - n) 0) (0 ∷ []));
        from = omega (arith, z.from);
        within = omega arith;
        long = length-set c j 0 ∙ z.long;
      }

  pub zero-ends : 81 ≤ j → n ≤ length b → set c 81 n ≡ holding (take n b)
  zero-ends h l =
      let e : j ≡ 81 = omega (arith, z.within) in
      let g : length c ≤ 82 = omega (arith, z.long) in
      let d : drop 82 c ≡ [] = drop_of_length-le c g in
      let s : length (take n b) ≡ n = length-take-le n b l in
      set_split c 81 n (omega (arith, z.long)) ∙ rw (d, s, sym e, z.is) (append_assoc (take n b) (replicate (j - n) 0) (n ∷ []))

-- those from n up to 81 are filled with 0
pub zero-fills : {b z : List ℕ} {n : ℕ} → length b ≡ 82 → n ≤ 81 → z ≡ replicate (length (mid_of n (81 - n) b)) 0 → Zeroed b (put_mid n (81 - n) b z) n 81
zero-fills {b} {z} {n} l h e =
    let many : length (mid_of n (81 - n) b) ≡ 81 - n = mid_len n 81 b (omega arith) in
    let zeros : z ≡ replicate (81 - n) 0 = e ∙ ap (λ (k : ℕ). replicate {A = ℕ} k 0) many in
    let size : length z ≡ length (mid_of n (81 - n) b) = ap length e ∙ length-replicate {A = ℕ} (length (mid_of n (81 - n) b)) 0 in
    let front : length (take n b) ≡ n = length-take-le n b (omega arith) in
    record {
      is = ap (take 81) (sym (append_assoc (take n b) z (post_of n (81 - n) b))) ∙ take_at (take n b ++ z) (post_of n (81 - n) b) 81 (omega (arith, length-append (take n b) z, size, many, front)) ∙ ap (λ (x : List ℕ). take n b ++ x) zeros;
      from = h;
      within = omega arith;
      long = same_len_mid n (81 - n) b z size ∙ l;
    }

-- ---- the walk

-- with n of the buffer's bytes written, u the tables and m bytes held, what is left of the piece leads to where the whole leads
pub record Going (t u : Tables) (piece b c o o' : List ℕ) (at m n : ℕ) : Type 0 where
  pub ready : Ready u
  pub text : List ℕ
  pub written : Wrote o o' 0 n text
  pub same : fill (length o) t (held_in b) piece ≡ writing text (fill (length o - n) u (take m c) (drop at piece))

pub record Walking (t u : Tables) (piece b c o o' : List ℕ) (at m n : ℕ) : Type 0 where
  pub room : Roomed u
  pub within : at ≤ length piece
  pub few : m ≤ 81
  pub long : length c ≡ 82
  pub space : n ≤ length o
  pub wide : length o' ≡ length o
  pub going : Ready t → Going t u piece b c o o' at m n

pub walk_begins : {t : Tables} {b o : List ℕ} (piece : List ℕ) → Lending t b o → Walking t t piece b b o o 0 (get_or b 81 0) 0
walk_begins {b = b} {o = o} piece k =
    let z : length o - 0 ≡ length o = omega arith in
    record {
      room = k.room;
      within = omega arith;
      few = k.few;
      long = k.long;
      space = omega arith;
      wide = refl;
      going = λ ready. record { ready = ready; text = []; written = wrote_none o 0; same = rw z };
    }

-- an answer in the part of a buffer from n on
module _ (o q : List ℕ) (n : ℕ) where
  part-is : mid_of n (length o - n) o ≡ drop n o
  part-is = take_all (length o - n) (drop n o) (omega (arith, length-drop n o))

  back_is : put_mid n (length o - n) o q ≡ take n o ++ q
  back_is =
      let h : length (drop n o) ≤ length o - n = omega (arith, length-drop n o) in
      let e : drop (length o - n) (drop n o) ≡ [] = drop_of_length-le (drop n o) h in
      ap (λ (x : List ℕ). take n o ++ (q ++ x)) e ∙ ap (λ (x : List ℕ). take n o ++ x) (append-nil q)

part-wrote : {o q l : List ℕ} {n k : ℕ} → Wrote (mid_of n (length o - n) o) q 0 k l → n + k ≤ length o → Wrote o (put_mid n (length o - n) o q) n (n + k) l
part-wrote {o} {q} {l} {n} {k} w h =
    let z : 0 + length l ≡ length l = omega arith in
    let e : q ≡ l ++ drop (n + length l) o = w.stored ∙ ap (λ (x : List ℕ). sets x 0 l) (part-is o q n) ∙ sets-eq l (drop n o) 0 (omega (arith, w.next, length-drop n o)) ∙ ap (λ (x : List ℕ). l ++ x) (ap (λ (x : ℕ). drop x (drop n o)) z ∙ drop-drop (length l) n o) in
    record {
      stored = back_is o q n ∙ ap (λ (x : List ℕ). take n o ++ x) e ∙ sym (append_assoc (take n o) l (drop (n + length l) o)) ∙ sym (sets-eq l o n (omega (arith, w.next)));
      next = omega (arith, w.next);
    }

ready-if : {t : Tables} → Ready t → (ended : Bool) (l : List ℕ) → Ready (tables_if ended t (line_of l))
ready-if r true l = ready-after r (meaning l)
ready-if r false l = r

-- a line is taken, and answered where it has ended
module _ {t u v : Tables} {piece b c c' o o' q : List ℕ} {at m n next bytes r k : ℕ} {more ended : Bool} (w : Walking t u piece b c o o' at m n) (goes_on : GoesOn (length piece - at) (length o' - n) more) (yes : more ≡ true) (takes : Takes piece at c c' m next bytes ended r) (long : length q ≡ length (mid_of n (length o' - n) o')) (room : Roomed v) (answers : Answers (both u v) ended (line_of (take bytes c')) (mid_of n (length o' - n) o') q k) where
  fits : n + k ≤ length o
  fits = omega (arith, answers.few, w.space, w.wide, goes_on.wide yes)

  goes : Going t u piece b c o o' at m n → Going t v piece b c' o (put_mid n (length o' - n) o' q) next r (n + k)
  goes g =
      let line = line_of (take bytes c') in
      let wrote = answers.text g.ready in
      let small : length (take m c) ≤ 81 = omega (arith, length-take-le m c (omega (arith, w.few, w.long)), w.few) in
      let left : length o - n - length (text_if ended u line) ≡ length o - (n + k) = omega (arith, wrote.next) in
      record {
        ready = subst Ready (sym (answers.tables g.ready)) (ready-if g.ready ended (take bytes c'));
        text = g.text ++ text_if ended u line;
        written = wrote-more g.written (part-wrote wrote (omega (arith, fits, w.wide)));
        same = g.same ∙ ap (writing g.text) (fill-takes takes (length o - n) u (omega (arith, goes_on.wide yes, w.wide)) small)
            ∙ rw (left, sym (answers.tables g.ready)) (writing-writing g.text (text_if ended u line) (fill (length o - (n + k)) v (take r c') (drop next piece)));
      }

  pub walk-turns : Walking t v piece b c' o (put_mid n (length o' - n) o' q) next r (n + k)
  walk-turns = record {
    room = room;
    within = takes.within;
    few = omega (arith, takes.few, takes.most);
    long = takes.room ∙ w.long;
    space = fits;
    wide = same_len_mid n (length o' - n) o' q long ∙ w.wide;
    going = λ ready. goes (w.going ready);
  }

-- what a call leaves that has read up to `at`
pub walk_ends : {t u : Tables} {piece b c b' o o' : List ℕ} {at m n : ℕ} {more : Bool} → Walking t u piece b c o o' at m n → GoesOn (length piece - at) (length o' - n) more → more ≡ false → b' ≡ holding (take m c) → Passes (fill (length o) t (held_in b) piece) (both t u) piece b' o o' (counts at n)
walk_ends {t} {u} {piece} {b} {c} {b'} {o} {o'} {at} {m} {n} {more} w goes_on left kept = record {
  passes = (w.within, w.space);
  does = λ ready. done (w.going ready);
}
  where
    stops-here : fill (length o - n) u (take m c) (drop at piece) ≡ stopped u (take m c) (drop at piece)
    stops-here = ⊎_elim
        (λ (h : length o - n < 768). fill-full (length o - n) u (take m c) (drop at piece) h)
        (λ (h : 768 ≤ length o - n). let g : length piece ≤ at = omega (arith, goes_on.ends left (omega (arith, h, w.wide))) in let d : drop at piece ≡ [] = drop_of_length-le piece g in rw d (fill_end (length o - n) u (take m c)))
        (lt-or-le (length o - n) 768)

    done : Going t u piece b c o o' at m n → (counts at n ≡ counts (length piece - length (fill (length o) t (held_in b) piece).rest) (length (fill (length o) t (held_in b) piece).text)) × (u ≡ (fill (length o) t (held_in b) piece).tables) × (b' ≡ holding (fill (length o) t (held_in b) piece).held) × (o' ≡ over (fill (length o) t (held_in b) piece).text o)
    done g =
        let e : fill (length o) t (held_in b) piece ≡ record { tables = u; held = take m c; text = g.text; rest = drop at piece } = g.same ∙ ap (writing g.text) stops-here ∙ ap (λ (x : List ℕ). record { tables = u; held = take m c; text = x; rest = drop at piece }) (append-nil g.text) in
        let read : at ≡ length piece - length (drop at piece) = omega (arith, length-drop at piece, w.within) in
        rw e (ap₂ counts read (g.written.next ∙ omega arith), refl, kept, wrote-over g.written (omega (arith, g.written.next, w.space)))

-- at the input's end
pub ends : {t u : Tables} {b b' o o' : List ℕ} {n : ℕ} → Lending t b o → Answers (both t u) (ltb 0 (get_or b 81 0)) (line_of (held_in b)) o o' n → b' ≡ holding [] → Passes (finish t (held_in b)) (both t u) [] b' o o' (counts 0 n)
ends {t} {u} {b} {b'} {o} {o'} {n} k a kept = record {
  passes = (omega arith, omega (arith, a.few, k.wide));
  does = λ ready.
      let w = a.text ready in
      let s : length (held_in b) ≡ get_or b 81 0 = length-take-le (get_or b 81 0) b (omega (arith, k.few, k.long)) in
      rw (finish-is t (held_in b) (get_or b 81 0) s) (ap₂ counts refl (w.next ∙ omega arith), a.tables ready, kept, wrote-over w (omega (arith, w.next, a.few, k.wide)));
}
