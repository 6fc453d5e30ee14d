-- The tables side by side, read one after the other: what is known before each, and each way on from there. texts are the tables' bytes,
-- lines and facts are their rows of the two arrays, t is the table to read next, a what reading it told, u are its rows; a prime marks
-- the arrays with one table more. Assumes nothing.
use mathlib.Core.Path.{◌≡◌, refl, sym, ap, ◌∙◌, subst}
use mathlib.Core.List.{List, [], ◌∷◌, ◌++◌, append_assoc, append-nil}
use Prim.Native.Nat.{ℕ, suc, ◌+◌, ◌<◌, ◌≤◌}
use native.Mathlib.Omega.{arith}
use native.Mathlib.Numerals.{suc-eq-add-one}
use denote.Ref.{Bor}
use Rattle.std.specs.Prelude.{Err}
use Rattle.std.proofs.lemmas.List.{map-set, set-get_or}
use Rattle.facts.specs.Memory.{no_lines, no_facts}
use Rattle.facts.specs.Table.{lines_in, facts_in}
use Rattle.facts.specs.Inputs.{texts_of, lines_of, facts_of, counts_of}
use Rattle.facts.specs.declared.inputs.Input.{Input}
use Rattle.facts.specs.declared.inputs.Inputs.{Inputs}
use Rattle.facts.proofs.Sides.{get_or-map_in}
use Rattle.rules.specs.Kinds.{fault_code}
use Rattle.table.specs.declared.Unreadable.{Unreadable}
use Rattle.table.proofs.Steps.{fills, fault_coded}
use lib.ListN.{length, drop, get_or, set, length-map, length-set, length-append, get_or-append, drop_of_length-le}
use lib.Seq.{drop-cons, get_or-append_seam, get_or-set_same, get_or-set_other}
use borrow.Author.Count.{below_more}
use Rattle.rules.specs.Line.{Row}
use Rattle.rules.specs.Table.{Verdict, readable, unreadable, verdict}
use Rattle.rules.specs.Calls.{Outcome, once_read, once_all_read}
use Rattle.facts.specs.Memory.{TABLES}
use Rattle.table.specs.Read.{Read, told, told_by, Reads, Unread, Fills}
use Rattle.table.specs.All.{refused_by, ReadsAll}
use Rattle.table.proofs.Answers.{Accepted, refused, accepted}

-- ---- one table

-- a text is a table, and memory holds it
pub record Held (text ls fs : List ℕ) (count : ℕ) (u : List Row) : Type 0 where
  pub is : verdict text ≡ readable u
  pub reads : Reads text ls fs (told 0 0 (length u))
  pub counted : count ≡ length u

held : (text ls fs : List ℕ) (a : Read) (w : Reads text ls fs a) (count : ℕ) (x : Accepted text a) → count ≡ a.count
    → Held text ls fs count x.t
held text ls fs a w count x e = record {
  is = x.is;
  reads = subst (Reads text ls fs) x.answer w;
  counted = e ∙ ap (λ (z : Read). z.count) x.answer;
}

-- ---- before table t

pub record Turn (texts lines facts : List (List ℕ)) (counts : List ℕ) (t : ℕ) : Type 0 where
  pub tables : List (List Row)
  pub many : length tables ≡ t
  pub up : t ≤ TABLES
  pub texts_many : length texts ≡ TABLES
  pub counts_many : length counts ≡ TABLES
  pub held : (k : ℕ) → k < t → Held (get_or texts k []) (get_or lines k []) (get_or facts k []) (get_or counts k 0) (get_or tables k [])
  pub unread : (k : ℕ) → t ≤ k → k < TABLES → Unread lines facts k
  -- the rest from here is the whole from the start
  pub same : (next : List (List Row) → Outcome)
      → once_all_read (t + 1) (drop t texts) (λ us. next (tables ++ us)) ≡ once_all_read 1 texts next

pub turn-start : (texts lines facts : List (List ℕ)) (counts : List ℕ) → ((t : ℕ) → t < TABLES → Unread lines facts t)
    → length texts ≡ TABLES → length counts ≡ TABLES → Turn texts lines facts counts 0
turn-start texts lines facts counts h m n = record {
  tables = [];
  many = refl;
  up = omega arith;
  texts_many = m;
  counts_many = n;
  held = λ k b. absurd (omega (arith, b));
  unread = λ k b. h k;
  same = λ next. refl;
}

module _ (texts lines facts : List (List ℕ)) (counts : List ℕ) (t : ℕ) (s : Turn texts lines facts counts t) where
  -- all were read
  pub turn_end : TABLES ≤ t → ReadsAll texts lines facts counts (record { code = 0; table = 0; line = 0 })
  turn_end h = record {
    refused = λ f. absurd (f refl);
    accepted = λ e. record {
      tables = s.tables;
      many = omega (arith, s.many, s.up);
      is = λ k b. (s.held k (omega arith)).is;
      reads = λ k b. (s.held k (omega arith)).reads;
      counted = λ k b. (s.held k (omega arith)).counted;
      all = λ next. sym (s.same next) ∙ none next;
    };
  }
    where
      none : (next : List (List Row) → Outcome) → once_all_read (t + 1) (drop t texts) (λ us. next (s.tables ++ us)) ≡ next s.tables
      none next =
          let over : length texts ≤ t = omega (arith, s.texts_many) in
          ap (λ (ts : List (List ℕ)). once_all_read (t + 1) ts (λ us. next (s.tables ++ us))) (drop_of_length-le texts over)
          ∙ ap next (append-nil s.tables)

  module _ (h : t < TABLES) where
    pub turn_unread : Unread lines facts t
    turn_unread = s.unread t (omega arith) h

    module _ (text : List ℕ) (e : text ≡ get_or texts t []) (lines' facts' : List (List ℕ)) (a : Read)
        (w : Fills text lines facts t lines' facts' a) where
      abbrev ls : List ℕ
      ls = get_or lines' t []

      abbrev fs : List ℕ
      fs = get_or facts' t []

      -- the rest, if table t has this verdict
      abbrev rest : (List (List Row) → Outcome) → Verdict → Outcome
      rest next v =
          once_read (t + 1) v (λ u. once_all_read (suc (t + 1)) (drop (suc t) texts) (λ us. next (s.tables ++ (u ∷ us))))

      first : (v : Verdict) → verdict text ≡ v → (next : List (List Row) → Outcome) → rest next v ≡ once_all_read 1 texts next
      first v q next =
          ap (rest next) (sym q ∙ ap verdict e)
          ∙ ap (λ (ts : List (List ℕ)). once_all_read (t + 1) ts (λ us. next (s.tables ++ us)))
          (sym (drop-cons texts t [] (omega (arith, s.texts_many))))
          ∙ s.same next

      pub turn_refused : (code line : ℕ) → code ≡ a.code → line ≡ a.line → (code ≡ 0 → ⊥)
          → ReadsAll texts lines' facts' counts (record { code = code; table = t + 1; line = line })
      turn_refused code line p d f = record {
        refused = λ g next. sym (first (unreadable code line) is next);
        accepted = λ z. absurd (f z);
      }
        where
          is : verdict text ≡ unreadable code line
          is = refused text ls fs a w.read (λ z. f (p ∙ z)) ∙ (λ i. unreadable (sym p i) (sym d i))

      module _ (code count : ℕ) (p : code ≡ a.code) (fine : code ≡ 0) (q : count ≡ a.count) where
        read : Accepted text a
        read = accepted text ls fs a w.read (sym p ∙ fine)

        abbrev tables' : List (List Row)
        tables' = s.tables ++ (read.t ∷ [])

        abbrev HeldAt : ℕ → Type 0
        HeldAt k =
            Held (get_or texts k []) (get_or lines' k []) (get_or facts' k []) (get_or (set counts t count) k 0) (get_or tables' k [])

        older : (k : ℕ) → k < t → HeldAt k
        older k b =
            let o : k ≡ t → ⊥ = λ z. omega arith in
            let l = w.lines_stay k o in
            let f = w.facts_stay k o in
            let c = get_or-set_other counts t k count 0 o in
            let u = get_or-append s.tables (read.t ∷ []) [] k (omega (arith, s.many)) in
            subst (λ (z : List ℕ). Held (get_or texts k []) z (get_or facts' k []) (get_or (set counts t count) k 0)
            (get_or tables' k [])) (sym l)
            (subst (λ (z : List ℕ). Held (get_or texts k []) (get_or lines k []) z (get_or (set counts t count) k 0)
            (get_or tables' k [])) (sym f)
            (subst (λ (z : ℕ). Held (get_or texts k []) (get_or lines k []) (get_or facts k []) z (get_or tables' k [])) (sym c)
            (subst (Held (get_or texts k []) (get_or lines k []) (get_or facts k []) (get_or counts k 0)) (sym u) (s.held k b))))

        newest : HeldAt t
        newest =
            let c = get_or-set_same counts t count 0 (omega (arith, s.counts_many)) in
            let u : get_or tables' t [] ≡ read.t =
            ap (λ (k : ℕ). get_or tables' k []) (sym s.many) ∙ get_or-append_seam s.tables read.t [] [] in
            subst (λ (z : List ℕ). Held z ls fs (get_or (set counts t count) t 0) (get_or tables' t [])) e
            (subst (λ (z : ℕ). Held text ls fs z (get_or tables' t [])) (sym c)
            (subst (Held text ls fs count) (sym u) (held text ls fs a w.read count read q)))

        pub turn_on : Turn texts lines' facts' (set counts t count) (t + 1)
        turn_on = record {
          tables = tables';
          many = omega (arith, s.many, length-append s.tables (read.t ∷ []));
          up = omega arith;
          texts_many = s.texts_many;
          counts_many = length-set counts t count ∙ s.counts_many;
          held = below_more HeldAt t older newest;
          unread = later;
          same = λ next. sym (on next) ∙ first (readable read.t) read.is next;
        }
          where
            later : (k : ℕ) → t + 1 ≤ k → k < TABLES → Unread lines' facts' k
            later k b c =
                let o : k ≡ t → ⊥ = λ z. omega arith in
                let x = s.unread k (omega arith) c in
                record {
                  place = c;
                  no_line = w.lines_stay k o ∙ x.no_line;
                  no_fact = w.facts_stay k o ∙ x.no_fact;
                }

            on : (next : List (List Row) → Outcome)
                → once_all_read (suc (t + 1)) (drop (suc t) texts) (λ us. next (s.tables ++ (read.t ∷ us)))
                ≡ once_all_read (t + 1 + 1) (drop (t + 1) texts) (λ us. next (tables' ++ us))
            on next i =
                once_all_read (suc-eq-add-one (t + 1) i) (drop (suc-eq-add-one t i) texts)
                (λ us. next (sym (append_assoc s.tables (read.t ∷ []) us) i))

-- ---- as the code goes: xs are the tables handed in, x is one after it was read

abbrev pub all : List Input → Inputs
all xs = record { tables = xs }

-- the texts stay, and the tables before t are read
pub record Reading (texts : List (List ℕ)) (xs : List Input) (t : ℕ) : Type 0 where
  pub texts_stay : texts_of (all xs) ≡ texts
  pub turn : Turn texts (lines_of (all xs)) (facts_of (all xs)) (counts_of (all xs)) t

pub reading-start : (xs : List Input) → length xs ≡ TABLES
    → ((t : ℕ) → t < TABLES → Unread (lines_of (all xs)) (facts_of (all xs)) t) → Reading (texts_of (all xs)) xs 0
reading-start xs long h = record {
  texts_stay = refl;
  turn = turn-start _ _ _ _ h (length-map xs _ ∙ long) (length-map xs _ ∙ long);
}

module _ (texts : List (List ℕ)) (xs : List Input) (t : ℕ) (w : Reading texts xs t) where
  many : length xs ≡ TABLES
  many = sym (length-map xs (λ (x : Input). x.count)) ∙ w.turn.counts_many

  pub reading_unread : (h : t < TABLES) (d : Input) → (lines_in (get_or xs t d).table ≡ no_lines) ×
      (facts_in (get_or xs t d).table ≡ no_facts)
  reading_unread h d =
      let u = turn_unread texts _ _ _ t w.turn h in (
        sym (get_or-map_in (λ (x : Input). lines_in x.table) xs t d [] (omega (arith, many, h))) ∙ u.no_line,
        sym (get_or-map_in (λ (x : Input). facts_in x.table) xs t d [] (omega (arith, many, h))) ∙ u.no_fact,
      )

  module _ (h : t < TABLES) (d x : Input) (same : x.text ≡ (get_or xs t d).text) where
    text_is : (get_or xs t d).text.now ≡ get_or texts t []
    text_is = sym (get_or-map_in (λ (x : Input). x.text.now) xs t d [] (omega (arith, many, h))) ∙ ap
        (λ (ts : List (List ℕ)). get_or ts t []) w.texts_stay

    texts_on : texts_of (all (set xs t x)) ≡ texts
    texts_on =
        map-set (λ (x : Input). x.text.now) xs t x
        ∙ ap (set (texts_of (all xs)) t) (ap (λ (b : Bor (List ℕ)). b.now) same
        ∙ sym (get_or-map_in (λ (x : Input). x.text.now) xs t d [] (omega (arith, many, h))))
        ∙ set-get_or (texts_of (all xs)) t [] ∙ w.texts_stay

    module _ (a : Read) (r : Reads (get_or xs t d).text.now (lines_in x.table) (facts_in x.table) a) where
      filled : Fills (get_or xs t d).text.now (lines_of (all xs)) (facts_of (all xs)) t (lines_of (all (set xs t x)))
          (facts_of (all (set xs t x))) a
      filled =
          subst (λ (z : List (List ℕ)). Fills (get_or xs t d).text.now (lines_of (all xs)) (facts_of (all xs)) t z
          (facts_of (all (set xs t x))) a) (sym (map-set (λ (x : Input). lines_in x.table) xs t x))
          (subst (λ (z : List (List ℕ)). Fills (get_or xs t d).text.now (lines_of (all xs)) (facts_of (all xs)) t
          (set (lines_of (all xs)) t (lines_in x.table)) z a) (sym (map-set (λ (x : Input). facts_in x.table) xs t x))
          (fills (get_or xs t d).text.now (lines_of (all xs)) (facts_of (all xs)) t (lines_in x.table) (facts_in x.table) a h
          (length-map xs _ ∙ many) (length-map xs _ ∙ many) r))

    pub reading_on : Reads (get_or xs t d).text.now (lines_in x.table) (facts_in x.table) (told 0 0 x.count) → Reading texts (set xs t x)
        (t + 1)
    reading_on r = record {
      texts_stay = texts_on;
      turn = subst (λ (z : List ℕ). Turn texts (lines_of (all (set xs t x))) (facts_of (all (set xs t x))) z (t + 1))
          (sym (map-set (λ (x : Input). x.count) xs t x))
          (turn_on texts _ _ _ t w.turn h (get_or xs t d).text.now text_is _ _ (told 0 0 x.count) (filled (told 0 0 x.count) r)
          0 x.count refl refl refl);
    }

    pub reading_refused : (why : Unreadable) → Reads (get_or xs t d).text.now (lines_in x.table) (facts_in x.table) (told_by (Err why))
        → ReadsAll texts (lines_of (all (set xs t x))) (facts_of (all (set xs t x))) (counts_of (all (set xs t x)))
        (refused_by (Err (record { table = t + 1; why = why })))
    reading_refused why r =
        let z = turn_refused texts _ _ _ t w.turn h (get_or xs t d).text.now text_is _ _ (told_by (Err why)) (filled (told_by (Err why)) r)
        (fault_code why.fault) why.line refl refl (fault_coded why.fault) in
        record { refused = z.refused; accepted = λ e. absurd (fault_coded why.fault e) }

    pub texts_same : texts_of (all (set xs t x)) ≡ texts
    texts_same = texts_on
