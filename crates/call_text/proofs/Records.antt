-- The bytes of a text record are a part of the form.
use mathlib.Core.Path.{◌≡◌, refl, sym, subst}
use mathlib.Core.List.{List}
use mathlib.Core.Option.{Option, some, none}
use Prim.Native.Nat.{ℕ, ◌+◌, ◌≤◌, ◌<◌}
use native.Mathlib.Omega.{arith}
use lib.ListN.{length, get_elem?, drop, length-drop}
use lib.Seq.{drop-drop}
use borrow.Author.Tests.{eq-eqb, ne_eqb}
use Rattle.rules.specs.Base.{◌>>?◌}
use Rattle.rules.specs.Form.{read_form, name_bytes, area_at}
use Rattle.rules.specs.Accept.{Accepted}
use Rattle.rules.specs.Calls.{record_text}
use Rattle.form_names.specs.declared.Name as names
use Rattle.form_names.specs.Names.{name_of}
use Rattle.form_layout.specs.Layout.{HasName}
use Rattle.form_layout.proofs.Sizes.{sized, from_drop, name_fits}
use Rattle.call_text.specs.declared.TextPart.{TextPart}
use Rattle.call_text.specs.Text.{refused_part, record_part, TellsText}

module _ (b : List ℕ) (k : ℕ) (h : HasName b k) (x : names.Name) (e : get_elem? (read_form b).names k ≡ some (name_of x)) where
  pub other_type : (x.kind ≡ 2 → ⊥) → (r : TextPart) → r ≡ refused_part 28 0
      → (a : Accepted) → a.form ≡ read_form b → TellsText b 1 (record_text a k) (record_part b a k) r
  unfolding record_text record_part ◌>>?◌
  other_type z r q a g =
      let none_there : record_text a k ≡ none = rw (g, e, ne_eqb x.kind 2 z) refl in
      subst (λ (o : Option (List ℕ)). TellsText b 1 o (record_part b a k) r) (sym none_there) (rw (g, e, ne_eqb x.kind 2 z) refl, q)

  module _ (at : ℕ) (ea : at ≡ area_at b) where
    record_inside : at + x.offset + x.size ≤ length b
    record_inside =
        let fits : x.offset + x.size ≤ length (drop at b) = rw (from_drop at b) at (name_fits b k h x e at ea) in
        omega (arith, fits, length-drop at b, ea, sized b h.good)

    pub record_small : at + x.offset + x.size < 4294967296
    record_small = omega (arith, record_inside, sized b h.good)

    pub text_type : x.kind ≡ 2 → (a : Accepted) → a.form ≡ read_form b
        → TellsText b 1 (record_text a k) (record_part b a k) (record { number = 0; place = 0; source = 1; offset = at + x.offset; length = x.size })
    unfolding record_text record_part name_bytes read_form ◌>>?◌
    text_type z a g =
        let bytes : record_text a k ≡ some (name_bytes (read_form b).area (name_of x)) = rw (g, e, eq-eqb x.kind 2 z) refl in
        subst (λ (o : Option (List ℕ)). TellsText b 1 o (record_part b a k) (record { number = 0; place = 0; source = 1; offset = at + x.offset; length = x.size })) (sym bytes)
        (record {
          number = refl;
          place = refl;
          source = refl;
          inside = record_inside;
          same = rw (ea, drop-drop x.offset (area_at b) b);
          exact = rw (g, e, eq-eqb x.kind 2 z, ea) refl;
        })
