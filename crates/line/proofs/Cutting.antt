-- A line cut into its parts, each way through: which byte ended it too early, or what its first two parts write and where its content
-- lies. s is what is left of the text, l the line without its LF, p and q its first two parts, c its content, x, y and z the bytes that
-- ended a run. Assumes nothing.
use mathlib.Core.Path.{◌≡◌, refl, sym, ap, ◌∙◌}
use mathlib.Core.Bool.{Bool, true, false, cond, not, true≢false}
use mathlib.Core.List.{List, [], ◌∷◌, ◌++◌, append-nil}
use Prim.Native.Nat.{ℕ, suc, ◌+◌, ◌<◌, ◌≤◌}
use native.Mathlib.Omega.{arith}
use lib.Dec.{T, eqb, ltb}
use lib.ListN.{length, get_or, take, drop, length-append}
use lib.Seq.{length-take-le, get_or-drop}
use borrow.Author.Tests.{eqb-true, eqb-false, eq-eqb, ne_eqb, lt-ltb, le-ltb}
use Rattle.std.specs.Prelude.{Ok, Err}
use Rattle.rules.specs.Lists.{every}
use Rattle.rules.specs.Line.{number_part, parent_part, content_part}
use Rattle.rules.specs.Text.{TAB, LF, allowed, count, before, after, fields, filled}
use Rattle.rules.specs.declared.kinds.Fault.{Fault}
use Rattle.rules.specs.declared.kinds.Fault.TheVariants.{ByteNotAllowed, FewTabs}
use Rattle.text.specs.Reads.{byte_at, plain, plain_run, number_in, number_at}
use Rattle.text.specs.declared.Number.{Number}
use Rattle.line.specs.Parts.{short_fault, allowed_run, fields_from, good_parts, parts_of}
use Rattle.line.specs.declared.Fields.{Fields}
use Rattle.line.specs.declared.Parts.{Parts}
use Rattle.line.proofs.PlainBytes.{before-plain, after-plain, count-plain, allowed-plain}
use Rattle.line.proofs.Places.{byte_first, part, Tabbed, part-plain, part_left, byte_stops, left_byte, tabbed}
use Rattle.line.proofs.Places.{number_end, part_number, number_high}

-- ---- a line that ends too early

-- the line l was ended by x: all its bytes are allowed only if x is its LF, and then it has no tab
record Short (l : List ℕ) (x : ℕ) : Type 0 where
  all : every allowed l ≡ eqb x LF
  none : x ≡ LF → count TAB l ≡ 0

-- nothing stands before an LF that comes first
before_none : (r : List ℕ) → get_or r 0 LF ≡ LF → before LF r ≡ []
before_none [] e = refl
before_none (x ∷ r) e = rw (eq-eqb x LF e)

module _ (s : List ℕ) (from end x : ℕ) (e : end ≡ from + plain_run (drop from s)) (b : x ≡ byte_at s end) (n : x ≡ TAB → ⊥) where
  abbrev p : List ℕ
  p = part s from end

  -- the line goes on behind the plain bytes
  line : before LF (drop from s) ≡ p ++ before LF (drop end s)
  line = ap (before LF) (part_left s from end x e b) ∙ before-plain LF tt p (drop end s) (part-plain s from end x e b)

  short : Short (before LF (drop from s)) x
  short = go (eqb x LF) refl
    where
      plain-all : (r : List ℕ) → before LF (drop end s) ≡ r → every allowed (before LF (drop from s)) ≡ every allowed r
      plain-all r h =
          ap (every allowed) (line ∙ ap (λ (t : List ℕ). p ++ t) h)
          ∙ allowed-plain p r (part-plain s from end x e b)

      go : (u : Bool) → eqb x LF ≡ u → Short (before LF (drop from s)) x
      go true q =
          let nothing : before LF (drop end s) ≡ [] = before_none (drop end s) (byte_first s end ∙ sym b ∙ eqb-true x LF q) in
          record {
            all = plain-all [] nothing ∙ sym q;
            none = λ f. ap (count TAB) (line ∙ ap (λ (t : List ℕ). p ++ t) nothing) ∙ count-plain TAB tt p [] (part-plain s from end x e b);
          }
      go false q =
          let left : drop end s ≡ x ∷ drop (end + 1) s = left_byte s from end x e b (eqb-false x LF q) in
          let next : before LF (drop end s) ≡ x ∷ before LF (drop (end + 1) s) = ap (before LF) left ∙ rw q in
          let bad : allowed x ≡ false = rw (ne_eqb x TAB n) (byte_stops s from end x e b) in
          record {
            all = plain-all (x ∷ before LF (drop (end + 1) s)) next ∙ rw bad (sym q);
            none = λ f. absurd (eqb-false x LF q f);
          }

-- its fault: 4 for the byte that ended it, 5 for its LF
parts_short : (l : List ℕ) (x : ℕ) → every allowed l ≡ eqb x LF → (x ≡ LF → count TAB l < 2) → Err (short_fault x) ≡ parts_of l
parts_short l x all few = go (eqb x LF) refl
  where
    go : (u : Bool) → eqb x LF ≡ u → Err (cond u FewTabs ByteNotAllowed) ≡ parts_of l
    go true q = rw (all, q, lt-ltb (count TAB l) 2 (few (eqb-true x LF q)))
    go false q = rw (all, q)

-- ---- the content's bytes

-- they end with an LF, or with a byte that is not allowed
allowed-ended : (u : List ℕ) → get_or u (allowed_run u) LF ≡ LF → before LF u ≡ take (allowed_run u) u
allowed-ended [] e = refl
allowed-ended (x ∷ u) e = go (allowed x) refl e (allowed-ended u)
  where
    go : (a : Bool) → allowed x ≡ a → get_or (x ∷ u) (cond a (suc (allowed_run u)) 0) LF ≡ LF
        → (get_or u (allowed_run u) LF ≡ LF → before LF u ≡ take (allowed_run u) u)
        → before LF (x ∷ u) ≡ take (cond a (suc (allowed_run u)) 0) (x ∷ u)
    go true q f ih =
        let n : x ≡ LF → ⊥ = λ h. let k : allowed LF ≡ true = sym (ap allowed h) ∙ q in true≢false (sym k) in
        rw (ne_eqb x LF n) (ap (λ (t : List ℕ). x ∷ t) (ih f))
    go false q f ih = rw (eq-eqb x LF f)

allowed_stopped : (u : List ℕ) → (get_or u (allowed_run u) LF ≡ LF → ⊥) → every allowed (before LF u) ≡ false
allowed_stopped [] n = absurd (n refl)
allowed_stopped (x ∷ u) n = go (allowed x) refl n (allowed_stopped u)
  where
    go : (a : Bool) → allowed x ≡ a → (get_or (x ∷ u) (cond a (suc (allowed_run u)) 0) LF ≡ LF → ⊥)
        → ((get_or u (allowed_run u) LF ≡ LF → ⊥) → every allowed (before LF u) ≡ false)
        → every allowed (before LF (x ∷ u)) ≡ false
    go true q m ih =
        let n : x ≡ LF → ⊥ = λ h. let k : allowed LF ≡ true = sym (ap allowed h) ∙ q in true≢false (sym k) in
        rw (ne_eqb x LF n, q) (ih m)
    go false q m ih = rw (ne_eqb x LF m, q)

-- up to there all are allowed
allowed_all : (u : List ℕ) → every allowed (take (allowed_run u) u) ≡ true
allowed_all [] = refl
allowed_all (x ∷ u) = go (allowed x) refl (allowed_all u)
  where
    go : (a : Bool) → allowed x ≡ a → every allowed (take (allowed_run u) u) ≡ true
        → every allowed (take (cond a (suc (allowed_run u)) 0) (x ∷ u)) ≡ true
    go true q ih = rw q ih
    go false q ih = refl

run_fits : (u : List ℕ) → allowed_run u ≤ length u
run_fits [] = omega arith
run_fits (x ∷ u) = go (allowed x) (run_fits u)
  where
    go : (a : Bool) → allowed_run u ≤ length u → cond a (suc (allowed_run u)) 0 ≤ suc (length u)
    go true h = omega arith
    go false h = omega arith

-- ---- a line with two tabs

-- two parts and a content, each part ended by a tab
abbrev joined : List ℕ → List ℕ → List ℕ → List ℕ
joined p q c = p ++ (TAB ∷ q ++ (TAB ∷ c))

module _ (p q c : List ℕ) (h : T (every plain p)) (k : T (every plain q)) where
  -- its parts are these, where the first two are plain
  first_part : number_part (joined p q c) ≡ p
  first_part = before-plain TAB tt p (TAB ∷ q ++ (TAB ∷ c)) h ∙ append-nil p

  behind-first : after TAB (joined p q c) ≡ q ++ (TAB ∷ c)
  behind-first = after-plain TAB tt p (TAB ∷ q ++ (TAB ∷ c)) h

  second-part : parent_part (joined p q c) ≡ q
  second-part = ap (before TAB) behind-first ∙ before-plain TAB tt q (TAB ∷ c) k ∙ append-nil q

  last-part : content_part (joined p q c) ≡ c
  last-part = ap (after TAB) behind-first ∙ after-plain TAB tt q (TAB ∷ c) k

  all-bytes : every allowed (joined p q c) ≡ every allowed c
  all-bytes = allowed-plain p (TAB ∷ q ++ (TAB ∷ c)) h ∙ allowed-plain q (TAB ∷ c) k

  two_tabs : ltb (count TAB (joined p q c)) 2 ≡ false
  two_tabs =
      let n : count TAB (joined p q c) ≡ suc (suc (count TAB c))
      = count-plain TAB tt p (TAB ∷ q ++ (TAB ∷ c)) h ∙ ap suc (count-plain TAB tt q (TAB ∷ c) k) in
      le-ltb (count TAB (joined p q c)) 2 (omega (arith, n))

  -- only the content's bytes are left to judge
  parts_joined : (u : Bool) → every allowed c ≡ u
      → parts_of (joined p q c) ≡ cond (not u) (Err ByteNotAllowed) (Ok (good_parts (joined p q c)))
  parts_joined u e = rw (all-bytes, e, two_tabs)

  joined-long : length (joined p q c) ≡ length p + 1 + length q + 1 + length c
  joined-long = omega (arith, length-append p (TAB ∷ q ++ (TAB ∷ c)), length-append q (TAB ∷ c))

-- ---- the ways through the cut

-- the line goes on behind the tab
line_tab : (s : List ℕ) (from end : ℕ) → Tabbed s from end
    → before LF (drop from s) ≡ part s from end ++ (TAB ∷ before LF (drop (end + 1) s))
line_tab s from end g = ap (before LF) g.parted ∙ before-plain LF tt (part s from end) (TAB ∷ drop (end + 1) s) g.bytes

module _ (s : List ℕ) (number : Number) (x : ℕ) (e : number ≡ number_at s 0) (b : x ≡ byte_at s number.end) where
  -- the place of the first tab
  abbrev first : ℕ
  first = number.end

  -- it ends before its first tab, before its second, with a byte that is not allowed, or with its LF
  pub cut-first : (f : Fault) → (x ≡ TAB → ⊥) → f ≡ short_fault x → Err f ≡ parts_of (before LF s)
  cut-first f n q =
      let h = short s 0 first x (number_end s 0 number e) b n in
      ap Err q ∙ parts_short (before LF s) x h.all (λ g. omega (arith, h.none g))

  module _ (t : x ≡ TAB) (parent : Number) (y : ℕ) (e₂ : parent ≡ number_at s (first + 1)) (b₂ : y ≡ byte_at s parent.end) where
    -- the place of the second tab
    abbrev second : ℕ
    second = parent.end

    one : Tabbed s 0 first
    one = tabbed s 0 first x (number_end s 0 number e) b t

    pub cut-second : (f : Fault) → (y ≡ TAB → ⊥) → f ≡ short_fault y → Err f ≡ parts_of (before LF s)
    cut-second f n q = ap Err q ∙ parts_short l y all few ∙ ap parts_of (sym (line_tab s 0 first one))
      where
        h : Short (before LF (drop (first + 1) s)) y
        h = short s (first + 1) second y (number_end s (first + 1) parent e₂) b₂ n

        l : List ℕ
        l = part s 0 first ++ (TAB ∷ before LF (drop (first + 1) s))

        all : every allowed l ≡ eqb y LF
        all = allowed-plain (part s 0 first) (TAB ∷ before LF (drop (first + 1) s)) one.bytes ∙ h.all

        few : y ≡ LF → count TAB l < 2
        few q = omega (arith, count-plain TAB tt (part s 0 first) (TAB ∷ before LF (drop (first + 1) s)) one.bytes, h.none q)

    module _ (t₂ : y ≡ TAB) (content : Fields) (z : ℕ) (e₃ : content ≡ fields_from s (second + 1)) (b₃ : z ≡ byte_at s content.end) where
      two : Tabbed s (first + 1) second
      two = tabbed s (first + 1) second y (number_end s (first + 1) parent e₂) b₂ t₂

      -- its first two parts
      abbrev front : List ℕ
      front = part s 0 first

      abbrev middle : List ℕ
      middle = part s (first + 1) second

      abbrev u : List ℕ
      u = drop (second + 1) s

      -- the line as its tabs part it
      line_is : before LF s ≡ joined front middle (before LF u)
      line_is = line_tab s 0 first one ∙ ap (λ (r : List ℕ). front ++ (TAB ∷ r)) (line_tab s (first + 1) second two)

      last_byte : z ≡ get_or u (allowed_run u) LF
      last_byte = b₃ ∙ ap (λ (f : Fields). byte_at s f.end) e₃ ∙ sym (get_or-drop (second + 1) s (allowed_run u) LF)

      pub cut_third : (z ≡ LF → ⊥) → Err ByteNotAllowed ≡ parts_of (before LF s)
      cut_third n =
          sym (ap parts_of line_is
          ∙ parts_joined front middle (before LF u) one.bytes two.bytes false (allowed_stopped u (λ f. n (last_byte ∙ f))))

      -- a line without a fault of its bytes and tabs
      abbrev whole : List ℕ
      whole = joined front middle (take (allowed_run u) u)

      whole_is : z ≡ LF → before LF s ≡ whole
      whole_is f = line_is ∙ ap (joined front middle) (allowed-ended u (sym last_byte ∙ f))

      whole_kept : parts_of whole ≡ Ok (good_parts whole)
      whole_kept = parts_joined front middle (take (allowed_run u) u) one.bytes two.bytes true (allowed_all u)

      -- the parts as they were found
      abbrev found : Parts
      found =
          record {
            number = number.value;
            parent = parent.value;
            start = second + 1;
            end = content.end;
            filled = content.filled;
          }

      whole_parts : found ≡ good_parts whole
      whole_parts =
          λ i. record {
            number = own i;
            parent = above i;
            start = start i;
            end = finish i;
            filled = all i;
          }
        where
          number_is : number_part whole ≡ front
          number_is = first_part front middle (take (allowed_run u) u) one.bytes two.bytes

          parent_is : parent_part whole ≡ middle
          parent_is = second-part front middle (take (allowed_run u) u) one.bytes two.bytes

          own : number.value ≡ number_in (number_part whole)
          own = part_number s 0 number e ∙ ap number_in (sym number_is)

          above : parent.value ≡ number_in (parent_part whole)
          above = part_number s (first + 1) parent e₂ ∙ ap number_in (sym parent_is)

          start : second + 1 ≡ length (number_part whole) + 1 + length (parent_part whole) + 1
          start = omega (arith, ap length number_is, ap length parent_is, one.long, two.long, two.low)

          finish : content.end ≡ length whole
          finish =
              omega (
                arith,
                ap (λ (f : Fields). f.end) e₃,
                joined-long front middle (take (allowed_run u) u) one.bytes two.bytes,
                one.long,
                two.long,
                two.low,
                length-take-le (allowed_run u) u (run_fits u),
              )

          all : content.filled ≡ every filled (fields (content_part whole))
          all =
              ap (λ (f : Fields). f.filled) e₃
              ∙ ap (λ (r : List ℕ). every filled (fields r))
              (sym (last-part front middle (take (allowed_run u) u) one.bytes two.bytes))

      pub cut-good : z ≡ LF → Ok found ≡ parts_of (before LF s)
      cut-good f = ap Ok whole_parts ∙ sym whole_kept ∙ ap parts_of (sym (whole_is f))

pub ruleset cuts = (cut-first, cut-second, cut_third, cut-good, number_high)
