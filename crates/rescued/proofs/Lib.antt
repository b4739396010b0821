-- Laws of a rescue, and that they hold.
pub mod KeptLaws
pub mod AcceptedLaws
pub mod SameLaws
pub mod BytesLaws
pub mod RefusedLaws
pub mod LostLaws
pub mod StepsLaws
pub mod RescueProved
