pub mod ChosenForms
