-- A list of writes that is cut at one of them: the image that it meets, and what is logged.
-- Assumes nothing.
use mathlib.Core.List.{List, [], ◌∷◌, ◌++◌}
use mathlib.Core.Path.{◌≡◌, refl, ap}
use Rattle.store.specs.Image.{image_log, image_last}
use Rattle.store.specs.Store.{Write, Entry, Logged}

module _ {A I : Type 0} (told : I → Write → A) (written : I → Write → I) where
  -- what each write keeps, a list of them keeps
  pub last_keeps : (Good : I → Type 0) → ((x : I) (w : Write) → Good x → Good (written x w)) → (es : List Entry) (x : I) → Good x → Good (image_last told written x es)
  unfolding image_last
  last_keeps Good keeps [] x g = g
  last_keeps Good keeps (e ∷ es) x g = last_keeps Good keeps es (written x e.write) (keeps x e.write g)

  pub log_split : (before after : List Entry) (e : Entry) (x : I)
      → let z = image_last told written x before in
      image_log told written x (before ++ (e ∷ after))
      ≡ image_log told written x before ++ (record { entry = e; answer = told z e.write } ∷ image_log told written (written z e.write) after)
  unfolding image_log image_last
  log_split [] after e x = refl
  log_split (b ∷ before) after e x =
      ap (λ (l : List (Logged A)). record { entry = b; answer = told x b.write } ∷ l) (log_split before after e (written x b.write))
