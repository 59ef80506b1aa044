mod FilesLaws
mod SoundLaws
